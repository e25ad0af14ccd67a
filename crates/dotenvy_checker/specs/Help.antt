-- What the program prints of itself.
use Rattle.std.specs.Prelude.{◌++◌, codes}
use Rattle.clap.specs.Words.{Text}

-- how the program is called
abbrev pub help_text : Text
help_text =
    codes "Usage: dotenvy_check [OPTION].. [FILE]..\n"
    ++ (codes "\n"
    ++ (codes "Says on which lines of environment files something is wrong.\n"
    ++ (codes "Without a FILE it checks the .env of the current directory, or of the nearest\n"
    ++ (codes "directory above it that has one. The FILE - is standard input. Of a folder it\n"
    ++ (codes "checks the files right in it that are called .env, .env.SUFFIX or PREFIX.env.\n"
    ++ (codes "\n"
    ++ (codes "      --next                read the files in the second dialect\n"
    ++ (codes "      --strict              count a warning as a fault, for the status\n"
    ++ (codes "      --allow KIND          report no warning of this kind\n"
    ++ (codes "      --deny KIND           count a warning of this kind as a fault\n"
    ++ (codes "      --known NAME          take it that NAME has a value\n"
    ++ (codes "      --ignore-environment  take no names from the environment\n"
    ++ (codes "      --together            let each file use the names of the files before it\n"
    ++ (codes "      --schema FILE         compare the names with those that FILE declares\n"
    ++ (codes "      --exclude NAME        leave out the files called NAME in folders\n"
    ++ (codes "      --format FORMAT       write the report as text, github, sarif or json\n"
    ++ (codes "      --text                print what a load says of each error, too\n"
    ++ (codes "  -q, --quiet               print nothing of the files\n"
    ++ (codes "  -h, --help                print this text\n"
    ++ (codes "  -V, --version             print the version\n"
    ++ (codes "      --                    end the options: each word after it is a FILE\n"
    ++ (codes "\n"
    ++ (codes "The options --allow, --deny, --known and --exclude may be given more than once.\n"
    ++ (codes "A KIND stands in brackets at the end of a line of the report, as [own-name]. An\n"
    ++ (codes "error can't be allowed. Without --format the report is text.\n"
    ++ (codes "\n"
    ++ (codes "The status is 0 if no file has a fault, 1 if one has, and 2 if a file can't be\n"
    ++ (codes "read, the words are wrong, or the report can't be written.\n"))))))))))))))))))))))))))))

-- which version the program is
abbrev pub version_text : Text
version_text = codes "dotenvy_check 1.0.0\n"
