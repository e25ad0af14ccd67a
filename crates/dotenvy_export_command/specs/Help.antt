-- What the program prints of itself.
use Rattle.std.specs.Prelude.{◌++◌, codes}
use Rattle.clap.specs.Words.{Text}

-- how the program is called
abbrev pub help_text : Text
help_text =
    codes "Usage: dotenvy_export TARGET [OPTION].. [FILE]..\n"
    ++ (codes "\n"
    ++ (codes "Writes the names that environment files declare, with their values, so that the\n"
    ++ (codes "TARGET reads exactly these. The names are in byte order. A name that the\n"
    ++ (codes "environment has, or a file before, keeps its value.\n"
    ++ (codes "Without a FILE it takes the .env of the current directory, or of the nearest\n"
    ++ (codes "directory above it that has one. A FILE without a / is searched in the same way.\n"
    ++ (codes "The FILE - is standard input.\n"
    ++ (codes "\n"
    ++ (codes "The TARGET is one of\n"
    ++ (codes "  docker                docker run --env-file\n"
    ++ (codes "  kubernetes            kubectl create configmap or secret, --from-env-file\n"
    ++ (codes "  systemd               EnvironmentFile= of a unit\n"
    ++ (codes "  sh                    a POSIX shell, by eval or .\n"
    ++ (codes "  json                  one object of texts\n"
    ++ (codes "  exec                  dotenvy_exec\n"
    ++ (codes "\n"
    ++ (codes "      --next                read the files in the second dialect\n"
    ++ (codes "      --override            let each file replace the values before it\n"
    ++ (codes "      --ignore-environment  begin with an empty environment\n"
    ++ (codes "      --optional FILE       as a FILE there, but it may be absent\n"
    ++ (codes "      --skip-reserved       leave out the names that shells keep for themselves,\n"
    ++ (codes "                            and warn of each; for sh, which else refuses them\n"
    ++ (codes "  -h, --help                print this text\n"
    ++ (codes "  -V, --version             print the version\n"
    ++ (codes "      --                    end the options: a word after it is TARGET or a FILE\n"
    ++ (codes "\n"
    ++ (codes "The option --optional may be given more than once.\n"
    ++ (codes "\n"
    ++ (codes "The status is 0 if all is written, 1 if a file can't be read or has a fault, the\n"
    ++ (codes "TARGET can't be given a name or a value, or standard output can't be written,\n"
    ++ (codes "and 2 if the words are wrong. Nothing is written unless all of it is known.\n")))))))))))))))))))))))))))))))

-- which version the program is
abbrev pub version_text : Text
version_text = codes "dotenvy_export 1.0.0\n"
