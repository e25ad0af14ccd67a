-- What the program prints of itself.
use Rattle.std.specs.Prelude.{◌++◌, codes}
use Rattle.clap.specs.Words.{Text}

-- how the program is called
abbrev pub help_text : Text
help_text =
    codes "Usage: dotenvy_edit set [OPTION].. FILE NAME [VALUE]\n"
    ++ (codes "       dotenvy_edit get [OPTION].. FILE NAME\n"
    ++ (codes "       dotenvy_edit unset [OPTION].. FILE NAME..\n"
    ++ (codes "       dotenvy_edit rename [OPTION].. FILE OLD NEW\n"
    ++ (codes "\n"
    ++ (codes "Sets, prints, removes or renames a name of an environment file. All other bytes\n"
    ++ (codes "stay as they are. Without a VALUE, or if it is -, the value is what standard\n"
    ++ (codes "input has, without one line feed at its end.\n"
    ++ (codes "\n"
    ++ (codes "      --next      read the file in the second dialect\n"
    ++ (codes "      --portable  for set: write what other libraries read alike, or refuse it\n"
    ++ (codes "      --create    for set: make the FILE if it is absent, for its owner alone\n"
    ++ (codes "      --dry-run   print what would change, with the values, and write no file\n"
    ++ (codes "      --exact     for set: take all of standard input, to its last line feed\n"
    ++ (codes "  -q, --quiet     print no warnings\n"
    ++ (codes "  -h, --help      print this text\n"
    ++ (codes "  -V, --version   print the version\n"
    ++ (codes "      --          end the options: each word after it is none\n"
    ++ (codes "\n"
    ++ (codes "The status is 0 if it is done, 1 if the name isn't there or the call is refused,\n"
    ++ (codes "and 2 if the words are wrong, or something can't be read or written. The file is\n"
    ++ (codes "replaced as a whole, or it stays as it was.\n")))))))))))))))))))))

-- which version the program is
abbrev pub version_text : Text
version_text = codes "dotenvy_edit 1.0.0\n"
