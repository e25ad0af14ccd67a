-- Worked files: what the tools make of them. They were recorded from the tools themselves.
use Prim.Native.String.{String}
use Rattle.std.specs.Prelude.{ℕ, ◌≡◌, List, [], ◌∷◌, ◌++◌, Option, Some, None, map, codes}
use Rattle.std.specs.Prelude.{encode_utf8_all}
use Rattle.dotenvy_exporter.specs.declared.target.Target.{Target}
use Rattle.dotenvy_exporter.specs.declared.target.Target.TheVariants as target
use Rattle.dotenvy_exporter.specs.Targets.{reads}
use Rattle.dotenvy_exporter.specs.Texts.{Pair}

-- a pair
abbrev pub is : String → String → Pair
is name value = (codes name, codes value)

-- a file of which the tool gives these pairs
abbrev pub gives : String → List Pair → List ℕ × Option (List Pair)
gives text pairs = (codes text, Some pairs)

-- a file that the tool refuses, or that doesn't say all values
abbrev pub is_none : String → List ℕ × Option (List Pair)
is_none text = (codes text, None)

-- bytes between two texts of ASCII
abbrev pub between : String → List ℕ → String → List ℕ
between before bytes after = codes before ++ (bytes ++ codes after)

-- the target's definition reads of these bytes what the tool makes of them
abbrev pub HaveReadBytes : Target → List (List ℕ × Option (List Pair)) → Type 0
HaveReadBytes t files = map (λ file. reads t file.0) files ≡ map (λ file. file.1) files

-- the target's definition reads of these files what the tool makes of them
abbrev pub HaveRead : Target → List (List ℕ × Option (List Pair)) → Type 0
HaveRead t files =
    map (λ file. reads t (encode_utf8_all file.0)) files ≡ map (λ file. file.1) files

-- files, and what docker 28.2 makes of them; it asks its own environment for the value of `A`
abbrev pub docker_files : List (List ℕ × Option (List Pair))
docker_files =
    gives "A=pa$$word\n" (is "A" "pa$$word" ∷ []) ∷
    gives "A=\"p@$$w0rd!\"\n" (is "A" "\"p@$$w0rd!\"" ∷ []) ∷
    gives "A=5$\n" (is "A" "5$" ∷ []) ∷
    gives "A=$((1+2))\n" (is "A" "$((1+2))" ∷ []) ∷
    gives "A=$B_C\n" (is "A" "$B_C" ∷ []) ∷
    gives "A=${B}\n" (is "A" "${B}" ∷ []) ∷
    gives "A=a\\\n" (is "A" "a\\" ∷ []) ∷
    gives "A=my\\ value\n" (is "A" "my\\ value" ∷ []) ∷
    gives "A='a\\\\b'\n" (is "A" "'a\\\\b'" ∷ []) ∷
    gives "A={\"a\":1}\n" (is "A" "{\"a\":1}" ∷ []) ∷
    gives "A=\"x\"y\n" (is "A" "\"x\"y" ∷ []) ∷
    gives "A=a#b\n" (is "A" "a#b" ∷ []) ∷
    gives "A=it's\nB=it's\n" (is "A" "it's" ∷ is "B" "it's" ∷ []) ∷
    gives "A=two words\n" (is "A" "two words" ∷ []) ∷
    gives "A=$(date +%Y)\n" (is "A" "$(date +%Y)" ∷ []) ∷
    gives "A=it's\n" (is "A" "it's" ∷ []) ∷
    gives "A=\"unterminated\n" (is "A" "\"unterminated" ∷ []) ∷
    gives "A=\"cost: 5$\"\n" (is "A" "\"cost: 5$\"" ∷ []) ∷
    gives "A=1 " (is "A" "1 " ∷ []) ∷
    gives "A=C:\\dir\\\n" (is "A" "C:\\dir\\" ∷ []) ∷
    gives "A=^\\d+$\n" (is "A" "^\\d+$" ∷ []) ∷
    gives "A=\"a\\tb\"\n" (is "A" "\"a\\tb\"" ∷ []) ∷
    is_none "A\n" ∷
    is_none "export A\n" ∷
    gives "A-B=1\n" (is "A-B" "1" ∷ []) ∷
    gives "É=1\n" (is "É" "1" ∷ []) ∷
    is_none "A: yaml\n" ∷
    is_none "A = 1\n" ∷
    is_none "export A=1\n" ∷
    gives "A=a=b\n" (is "A" "a=b" ∷ []) ∷
    gives "A=a # c\n" (is "A" "a # c" ∷ []) ∷
    gives "A='a # b'\n" (is "A" "'a # b'" ∷ []) ∷
    gives "A=1\r\nB=2\r\n" (is "A" "1" ∷ is "B" "2" ∷ []) ∷
    gives "A=\"say \\\"hi\\\"\"\n" (is "A" "\"say \\\"hi\\\"\"" ∷ []) ∷
    gives "A='pa$$word'\n" (is "A" "'pa$$word'" ∷ []) ∷
    gives "A='C:\\new\\dir'\n" (is "A" "'C:\\new\\dir'" ∷ []) ∷
    gives "A=\"it's\"\n" (is "A" "\"it's\"" ∷ []) ∷
    []

abbrev pub HaveDockerFiles : Type 0
HaveDockerFiles = HaveRead target.Docker docker_files

-- files, and what kubectl 1.32 makes of them
abbrev pub kubernetes_files : List (List ℕ × Option (List Pair))
kubernetes_files =
    gives "A=a$$b\n" (is "A" "a$$b" ∷ []) ∷
    gives "A=$2y$10$abc\n" (is "A" "$2y$10$abc" ∷ []) ∷
    gives "A=$(date)\n" (is "A" "$(date)" ∷ []) ∷
    gives "A=\"${B:-x}\"\n" (is "A" "\"${B:-x}\"" ∷ []) ∷
    gives "A=$B\n" (is "A" "$B" ∷ []) ∷
    gives "A='${B}'\n" (is "A" "'${B}'" ∷ []) ∷
    gives "A=C:\\new\n" (is "A" "C:\\new" ∷ []) ∷
    gives "A=a\\$b\n" (is "A" "a\\$b" ∷ []) ∷
    gives "A=\"a\\\\b\"\n" (is "A" "\"a\\\\b\"" ∷ []) ∷
    gives "A=a\"b\"\n" (is "A" "a\"b\"" ∷ []) ∷
    gives "A=\"foo\"#bar\n" (is "A" "\"foo\"#bar" ∷ []) ∷
    gives "A=#fff\n" (is "A" "#fff" ∷ []) ∷
    gives "A=a  # it's\nB=it's\n" (is "A" "a  # it's" ∷ is "B" "it's" ∷ []) ∷
    gives "A={\"a\": 1}\n" (is "A" "{\"a\": 1}" ∷ []) ∷
    gives "A=\"x\" \"y\"\n" (is "A" "\"x\" \"y\"" ∷ []) ∷
    gives "A=a  # it's\n" (is "A" "a  # it's" ∷ []) ∷
    gives "A='it\\'s'\n" (is "A" "'it\\'s'" ∷ []) ∷
    gives "A=\"$B\"\n" (is "A" "\"$B\"" ∷ []) ∷
    gives "A=C:\\dir\n" (is "A" "C:\\dir" ∷ []) ∷
    gives "A=\\\\server\\share\n" (is "A" "\\\\server\\share" ∷ []) ∷
    gives "A=\"\\d+\"\n" (is "A" "\"\\d+\"" ∷ []) ∷
    gives "A=\"a\\rb\"\n" (is "A" "\"a\\rb\"" ∷ []) ∷
    is_none "export A\n" ∷
    gives "A-B=1\n" (is "A-B" "1" ∷ []) ∷
    is_none "1A=1\n" ∷
    is_none "É=1\n" ∷
    is_none "'A'=1\n" ∷
    is_none "A: yaml\n" ∷
    is_none "A = 1\n" ∷
    is_none "export A=1\n" ∷
    gives "A=a=b\n" (is "A" "a=b" ∷ []) ∷
    gives "A=a # c\n" (is "A" "a # c" ∷ []) ∷
    gives "A='a # b'\n" (is "A" "'a # b'" ∷ []) ∷
    gives "A=1\r\nB=2\r\n" (is "A" "1" ∷ is "B" "2" ∷ []) ∷
    is_none "A=\"a\nb\"\n" ∷
    gives "A=\"say \\\"hi\\\"\"\n" (is "A" "\"say \\\"hi\\\"\"" ∷ []) ∷
    gives "A='pa$$word'\n" (is "A" "'pa$$word'" ∷ []) ∷
    gives "A='C:\\new\\dir'\n" (is "A" "'C:\\new\\dir'" ∷ []) ∷
    []

abbrev pub HaveKubernetesFiles : Type 0
HaveKubernetesFiles = HaveRead target.Kubernetes kubernetes_files

-- files, and what the parser of systemd 252 makes of them
abbrev pub systemd_files : List (List ℕ × Option (List Pair))
systemd_files =
    gives "A=\"p@$$w0rd!\"\n" (is "A" "p@$$w0rd!" ∷ []) ∷
    gives "A=\"${B:-x}\"\n" (is "A" "${B:-x}" ∷ []) ∷
    gives "A='${B}'\n" (is "A" "${B}" ∷ []) ∷
    gives "A=a\\\n" (is "A" "a" ∷ []) ∷
    gives "A=C:\\new\n" (is "A" "C:new" ∷ []) ∷
    gives "A=my\\ value\n" (is "A" "my value" ∷ []) ∷
    gives "A=a\\$b\n" (is "A" "a$b" ∷ []) ∷
    gives "A='a\\\\b'\n" (is "A" "a\\\\b" ∷ []) ∷
    gives "A=\"a\\\\b\"\n" (is "A" "a\\b" ∷ []) ∷
    gives "A=\"x\"y\n" (is "A" "xy" ∷ []) ∷
    gives "A=\"foo\"#bar\n" (is "A" "foo#bar" ∷ []) ∷
    gives "A=\"x\" \"y\"\n" (is "A" "xy" ∷ []) ∷
    gives "A=\"unterminated\n" (is "A" "unterminated\n" ∷ []) ∷
    gives "A='it\\'s'\n" (is "A" "it\\s'" ∷ []) ∷
    gives "A=\"cost: 5$\"\n" (is "A" "cost: 5$" ∷ []) ∷
    gives "A=\"$B\"\n" (is "A" "$B" ∷ []) ∷
    gives "A=1 " (is "A" "1" ∷ []) ∷
    gives "A=C:\\dir\n" (is "A" "C:dir" ∷ []) ∷
    gives "A=C:\\dir\\\n" (is "A" "C:dir" ∷ []) ∷
    gives "A=\\\\server\\share\n" (is "A" "\\servershare" ∷ []) ∷
    gives "A=^\\d+$\n" (is "A" "^d+$" ∷ []) ∷
    gives "A=\"\\d+\"\n" (is "A" "\\d+" ∷ []) ∷
    gives "A=\"a\\tb\"\n" (is "A" "a\\tb" ∷ []) ∷
    gives "A=\"a\\rb\"\n" (is "A" "a\\rb" ∷ []) ∷
    gives "A\n" [] ∷
    gives "export A\n" [] ∷
    gives "A: yaml\n" [] ∷
    gives "A = 1\n" (is "A" "1" ∷ []) ∷
    gives "export A=1\n" (is "export A" "1" ∷ []) ∷
    gives "A=\"a\" # it's\n" (is "A" "a# it's" ∷ []) ∷
    gives "A='a # b'\n" (is "A" "a # b" ∷ []) ∷
    gives "A=\"a\\nb\"\n" (is "A" "a\\nb" ∷ []) ∷
    gives "A=\"a\nb\"\n" (is "A" "a\nb" ∷ []) ∷
    gives "A=\"say \\\"hi\\\"\"\n" (is "A" "say \"hi\"" ∷ []) ∷
    gives "A='pa$$word'\n" (is "A" "pa$$word" ∷ []) ∷
    gives "A='{\"a\": 1}'\n" (is "A" "{\"a\": 1}" ∷ []) ∷
    gives "A='C:\\new\\dir'\n" (is "A" "C:\\new\\dir" ∷ []) ∷
    gives "A='a#b'\n" (is "A" "a#b" ∷ []) ∷
    gives "A=\"it's\"\n" (is "A" "it's" ∷ []) ∷
    []

abbrev pub HaveSystemdFiles : Type 0
HaveSystemdFiles = HaveRead target.Systemd systemd_files

-- files by their bytes, and what this parser makes of them: noncharacters, and bytes that are not
-- UTF-8, which it refuses in names and values alone, a NUL, and names that begin with `=`
abbrev pub systemd_byte_files : List (List ℕ × Option (List Pair))
systemd_byte_files =
    (between "A=" (0xEF ∷ 0xBF ∷ 0xBF ∷ []) "\n", None) ∷
    (between "A=" (0xEF ∷ 0xB7 ∷ 0x90 ∷ []) "\n", None) ∷
    (between "A=" (0xF4 ∷ 0x8F ∷ 0xBF ∷ 0xBE ∷ []) "\n", None) ∷
    (between "A=" (0xEF ∷ 0xBF ∷ 0xBF ∷ []) "\nA=1\n", None) ∷
    (between "" (0xEF ∷ 0xB7 ∷ 0x90 ∷ []) "=1\n", None) ∷
    (between "A=" (0xEF ∷ 0xB7 ∷ 0x8F ∷ []) "\n", Some ((codes "A", 0xFDCF ∷ []) ∷ [])) ∷
    (between "A=" (0xEF ∷ 0xB7 ∷ 0xB0 ∷ []) "\n", Some ((codes "A", 0xFDF0 ∷ []) ∷ [])) ∷
    (between "A=" (0xEF ∷ 0xBF ∷ 0xBD ∷ []) "\n", Some ((codes "A", 0xFFFD ∷ []) ∷ [])) ∷
    (between "# " (0xEF ∷ 0xBF ∷ 0xBF ∷ []) "\nA=1\n", Some (is "A" "1" ∷ [])) ∷
    (between "" (0xEF ∷ 0xBF ∷ 0xBE ∷ []) "\nA=1\n", Some (is "A" "1" ∷ [])) ∷
    (between "A=" (0xFF ∷ []) "\n", None) ∷
    (between "" (0xE9 ∷ []) "=1\n", None) ∷
    (between "# " (0xFF ∷ []) "\nA=1\n", Some (is "A" "1" ∷ [])) ∷
    (between "" (0xFF ∷ []) "\nA=1\n", Some (is "A" "1" ∷ [])) ∷
    (between "A=" (0xED ∷ 0xA0 ∷ 0x80 ∷ []) "\n", None) ∷
    (between "A=" (0xC0 ∷ 0xAF ∷ []) "\n", None) ∷
    (between "A=" (0xF4 ∷ 0x90 ∷ 0x80 ∷ 0x80 ∷ []) "\n", None) ∷
    (between "A=1" (0 ∷ []) "2\nB=2\n", None) ∷
    (between "# " (0 ∷ []) "\nA=1\n", None) ∷
    (codes "=1\n", Some []) ∷
    (codes "A==b\n", Some (is "A" "=b" ∷ [])) ∷
    (codes "==1\n", Some (is "" "=1" ∷ [])) ∷
    (codes "= =1\n", Some (is "" "=1" ∷ [])) ∷
    (codes "=A=1\n==2\n", Some (is "" "=2" ∷ [])) ∷
    (codes "==1\nA=2\n==3\n", Some (is "" "=3" ∷ is "A" "2" ∷ [])) ∷
    []

abbrev pub HaveSystemdByteFiles : Type 0
HaveSystemdByteFiles = HaveReadBytes target.Systemd systemd_byte_files

-- texts, and what dash, bash, busybox, zsh and ksh export of them
abbrev pub shell_files : List (List ℕ × Option (List Pair))
shell_files =
    gives "" [] ∷
    gives "export A='x'\n" (is "A" "x" ∷ []) ∷
    gives "export A=x\n" (is "A" "x" ∷ []) ∷
    gives "export A='x'" (is "A" "x" ∷ []) ∷
    gives "export A=\n" (is "A" "" ∷ []) ∷
    gives "export A=''\n" (is "A" "" ∷ []) ∷
    gives "export A='it'\\''s'\n" (is "A" "it's" ∷ []) ∷
    gives "export A='a\nb'\n" (is "A" "a\nb" ∷ []) ∷
    gives "export A='1'\nexport B='2'\n" (is "A" "1" ∷ is "B" "2" ∷ []) ∷
    gives "export A='a'b'c'\n" (is "A" "abc" ∷ []) ∷
    gives "export A=a\\ b\n" (is "A" "a b" ∷ []) ∷
    gives "export A='$HOME'\n" (is "A" "$HOME" ∷ []) ∷
    gives "export A='`id`'\n" (is "A" "`id`" ∷ []) ∷
    gives "export A='$(id)'\n" (is "A" "$(id)" ∷ []) ∷
    gives "export A='\\'\n" (is "A" "\\" ∷ []) ∷
    gives "export A='\"'\n" (is "A" "\"" ∷ []) ∷
    gives "export A=\\\\\n" (is "A" "\\" ∷ []) ∷
    gives "export A=\\$HOME\n" (is "A" "$HOME" ∷ []) ∷
    gives "export A='x'\\\"'y'\n" (is "A" "x\"y" ∷ []) ∷
    gives "export A='a=b'\n" (is "A" "a=b" ∷ []) ∷
    gives "export A='#x'\n" (is "A" "#x" ∷ []) ∷
    gives "export A='~'\n" (is "A" "~" ∷ []) ∷
    gives "export A='*'\n" (is "A" "*" ∷ []) ∷
    gives "export A='a;b|c&d<e>f(g)'\n" (is "A" "a;b|c&d<e>f(g)" ∷ []) ∷
    gives "export A='\t'\n" (is "A" "\t" ∷ []) ∷
    gives "export A='\r'\n" (is "A" "\r" ∷ []) ∷
    gives "export A=/usr/bin:/bin\n" (is "A" "/usr/bin:/bin" ∷ []) ∷
    gives "export A=a,b+c@d-e.f_g\n" (is "A" "a,b+c@d-e.f_g" ∷ []) ∷
    gives "export _A1='x'\n" (is "_A1" "x" ∷ []) ∷
    gives "export A='!x'\n" (is "A" "!x" ∷ []) ∷
    gives "export A=\\'\n" (is "A" "'" ∷ []) ∷
    gives "export A='\n'\nexport B='\n\n'\n" (is "A" "\n" ∷ is "B" "\n\n" ∷ []) ∷
    gives "export A='export B=1'\n" (is "A" "export B=1" ∷ []) ∷
    gives "export A='x'\nexport B=y\nexport C='z'" (is "A" "x" ∷ is "B" "y" ∷ is "C" "z" ∷ []) ∷
    gives "export A=''\\'''\n" (is "A" "'" ∷ []) ∷
    []

abbrev pub HaveShellFiles : Type 0
HaveShellFiles = HaveRead target.Sh shell_files

-- texts, and what these shells export, and put before the arguments
abbrev pub exec_files : List (List ℕ × Option (List Pair))
exec_files =
    gives "" [] ∷
    gives "export A='x'\n" (is "A" "x" ∷ []) ∷
    gives "set -- 'A.B=1' \"$@\"\n" (is "A.B" "1" ∷ []) ∷
    gives "set -- 'A=x' \"$@\"\n" (is "A" "x" ∷ []) ∷
    gives "set -- 'UID=1000' \"$@\"\n" (is "UID" "1000" ∷ []) ∷
    gives "set -- 'A.B=' \"$@\"\n" (is "A.B" "" ∷ []) ∷
    gives "set -- 'A.B=a=b' \"$@\"\n" (is "A.B" "a=b" ∷ []) ∷
    gives "set -- 'A.B=it'\\''s' \"$@\"\n" (is "A.B" "it's" ∷ []) ∷
    gives "set -- 'A.B=a\nb' \"$@\"\n" (is "A.B" "a\nb" ∷ []) ∷
    gives "set -- 'A.B=$HOME' \"$@\"\n" (is "A.B" "$HOME" ∷ []) ∷
    gives "set -- 'A.B=`id`' \"$@\"\n" (is "A.B" "`id`" ∷ []) ∷
    gives "set -- 'A.B=\"x\"' \"$@\"\n" (is "A.B" "\"x\"" ∷ []) ∷
    gives "set -- 'A.B=\\' \"$@\"\n" (is "A.B" "\\" ∷ []) ∷
    gives "set -- 'A.B=1' \"$@\"" (is "A.B" "1" ∷ []) ∷
    gives "set -- 'A-B=-x' \"$@\"\n" (is "A-B" "-x" ∷ []) ∷
    gives "set -- A.B'='1 \"$@\"\n" (is "A.B" "1" ∷ []) ∷
    gives "set -- 'A.B'\\=1 \"$@\"\n" (is "A.B" "1" ∷ []) ∷
    gives "set -- 'É=1' \"$@\"\n" (is "É" "1" ∷ []) ∷
    gives "set -- '1A=1' \"$@\"\n" (is "1A" "1" ∷ []) ∷
    gives "set -- 'A B=c d' \"$@\"\n" (is "A B" "c d" ∷ []) ∷
    gives "set -- 'A.B=\"$@\"' \"$@\"\n" (is "A.B" "\"$@\"" ∷ []) ∷
    gives "set -- 'A.B=*' \"$@\"\n" (is "A.B" "*" ∷ []) ∷
    gives "export A='1'\nset -- 'A.B=2' \"$@\"\n" (is "A" "1" ∷ is "A.B" "2" ∷ []) ∷
    gives "set -- 'A.B=1' \"$@\"\nset -- 'A.C=2' \"$@\"\nexport D='3'\n"
    (is "A.B" "1" ∷ is "A.C" "2" ∷ is "D" "3" ∷ []) ∷
    gives "set -- 'A.B=\n' \"$@\"\nexport C='\n'\n" (is "A.B" "\n" ∷ is "C" "\n" ∷ []) ∷
    gives "set -- 'A.B=\r' \"$@\"\n" (is "A.B" "\r" ∷ []) ∷
    []

abbrev pub HaveExecFiles : Type 0
HaveExecFiles = HaveRead target.Exec exec_files

-- texts, and what Python's json makes of them; it takes the last of two members of one name
abbrev pub json_files : List (List ℕ × Option (List Pair))
json_files =
    gives "{}" [] ∷
    gives "{}\n" [] ∷
    gives "{\"A\":\"1\"}\n" (is "A" "1" ∷ []) ∷
    gives "{\"A\":\"1\",\"B\":\"2\"}\n" (is "A" "1" ∷ is "B" "2" ∷ []) ∷
    gives " { \"A\" : \"1\" , \"B\" : \"2\" } " (is "A" "1" ∷ is "B" "2" ∷ []) ∷
    gives "{\"A\":\"\"}" (is "A" "" ∷ []) ∷
    gives "{\"\":\"x\"}" (is "" "x" ∷ []) ∷
    gives "{\"A\":\"\\\"\"}" (is "A" "\"" ∷ []) ∷
    gives "{\"A\":\"\\\\\"}" (is "A" "\\" ∷ []) ∷
    gives "{\"A\":\"\\/\"}" (is "A" "/" ∷ []) ∷
    gives "{\"A\":\"a\\nb\"}" (is "A" "a\nb" ∷ []) ∷
    gives "{\"A\":\"\\t\\r\\b\\f\"}" (is "A" "\t\r\u{8}\u{c}" ∷ []) ∷
    gives "{\"A\":\"\\u0000\"}" (is "A" "\0" ∷ []) ∷
    gives "{\"A\":\"\\u00e9\"}" (is "A" "é" ∷ []) ∷
    gives "{\"A\":\"é\"}" (is "A" "é" ∷ []) ∷
    gives "{\"A\":\"\\ud83d\\ude00\"}" (is "A" "😀" ∷ []) ∷
    gives "{\"A\":\"$HOME\"}" (is "A" "$HOME" ∷ []) ∷
    gives "{\"A\":\"'\"}" (is "A" "'" ∷ []) ∷
    gives "{\"A\":\"a,b:{}[]\"}" (is "A" "a,b:{}[]" ∷ []) ∷
    is_none "{\"A\":1}" ∷
    is_none "{\"A\":null}" ∷
    is_none "{\"A\":true}" ∷
    is_none "{\"A\":[\"x\"]}" ∷
    is_none "{\"A\":{}}" ∷
    is_none "[\"A\"]" ∷
    is_none "\"A\"" ∷
    is_none "" ∷
    is_none "{" ∷
    is_none "{\"A\":\"1\",}" ∷
    is_none "{\"A\" \"1\"}" ∷
    is_none "{\"A\":\"1\"}x" ∷
    is_none "{\"A\":\"1\"}{}" ∷
    is_none "{A:\"1\"}" ∷
    is_none "{'A':'1'}" ∷
    is_none "{\"A\":\"a\nb\"}" ∷
    is_none "{\"A\":\"\\x\"}" ∷
    is_none "{\"A\":\"1\",\"A\":\"2\"}" ∷
    gives "{\"A\":\"1\"}\r\n" (is "A" "1" ∷ []) ∷
    []

abbrev pub HaveJsonFiles : Type 0
HaveJsonFiles = HaveRead target.Json json_files
