-- The names that shells keep for themselves.
use Rattle.std.specs.Prelude.{ℕ, Bool, true, not, ◌&&◌, List, [], ◌∷◌, codes}
use Rattle.std.specs.Cmp.Lexicographic.{slice_cmp}
use Rattle.std.specs.Ordering.{is_lt, nat_cmp}
use Rattle.std.specs.List.{list_any}
use Rattle.std.specs.Str.{bytes_eq}

-- the names which dash, bash, busybox, zsh or ksh doesn't hand on as it was told, in byte order: it
-- fails, or sets another value, or none
unfoldable pub reserved_names : List (List ℕ)
reserved_names =
    codes "ARGC" ∷ codes "ARGV0" ∷ codes "A__z" ∷ codes "BASHOPTS" ∷ codes "BASHPID" ∷
    codes "BASH_ALIASES" ∷ codes "BASH_ARGC" ∷ codes "BASH_ARGV" ∷ codes "BASH_CMDS" ∷
    codes "BASH_COMMAND" ∷ codes "BASH_LINENO" ∷ codes "BASH_SOURCE" ∷ codes "BASH_SUBSHELL" ∷
    codes "BASH_VERSINFO" ∷ codes "COLUMNS" ∷ codes "DIRSTACK" ∷ codes "EGID" ∷
    codes "EPOCHREALTIME" ∷ codes "EPOCHSECONDS" ∷ codes "ERRNO" ∷ codes "EUID" ∷
    codes "FUNCNAME" ∷ codes "FUNCNEST" ∷ codes "GID" ∷ codes "GROUPS" ∷ codes "HISTCHARS" ∷
    codes "HISTCMD" ∷ codes "HISTSIZE" ∷ codes "JOBMAX" ∷ codes "KEYBOARD_HACK" ∷
    codes "KEYTIMEOUT" ∷ codes "KSH_VERSION" ∷ codes "LINENO" ∷ codes "LINES" ∷ codes "LISTMAX" ∷
    codes "MAILCHECK" ∷ codes "OPTIND" ∷ codes "PIPESTATUS" ∷ codes "PPID" ∷ codes "RANDOM" ∷
    codes "SAVEHIST" ∷ codes "SECONDS" ∷ codes "SHELLOPTS" ∷ codes "SHLVL" ∷ codes "SRANDOM" ∷
    codes "TMOUT" ∷ codes "TRY_BLOCK_ERROR" ∷ codes "TRY_BLOCK_INTERRUPT" ∷ codes "TTYIDLE" ∷
    codes "UID" ∷ codes "USERNAME" ∷ codes "WATCH" ∷ codes "ZLE_RPROMPT_INDENT" ∷
    codes "ZSH_EVAL_CONTEXT" ∷ codes "ZSH_SUBSHELL" ∷ codes "_" ∷ codes "aliases" ∷
    codes "argv" ∷ codes "builtins" ∷ codes "cdpath" ∷ codes "commands" ∷ codes "dirstack" ∷
    codes "dis_aliases" ∷ codes "dis_builtins" ∷ codes "dis_functions" ∷
    codes "dis_functions_source" ∷ codes "dis_galiases" ∷ codes "dis_patchars" ∷
    codes "dis_reswords" ∷ codes "dis_saliases" ∷ codes "fignore" ∷ codes "fpath" ∷
    codes "funcfiletrace" ∷ codes "funcsourcetrace" ∷ codes "funcstack" ∷ codes "functions" ∷
    codes "functions_source" ∷ codes "functrace" ∷ codes "galiases" ∷ codes "histchars" ∷
    codes "history" ∷ codes "historywords" ∷ codes "jobdirs" ∷ codes "jobstates" ∷
    codes "jobtexts" ∷ codes "keymaps" ∷ codes "mailpath" ∷ codes "manpath" ∷
    codes "module_path" ∷ codes "modules" ∷ codes "nameddirs" ∷ codes "options" ∷
    codes "parameters" ∷ codes "patchars" ∷ codes "path" ∷ codes "pipestatus" ∷ codes "psvar" ∷
    codes "reswords" ∷ codes "saliases" ∷ codes "signals" ∷ codes "status" ∷ codes "termcap" ∷
    codes "terminfo" ∷ codes "userdirs" ∷ codes "usergroups" ∷ codes "watch" ∷ codes "widgets" ∷
    codes "zsh_eval_context" ∷ codes "zsh_scheduled_events" ∷ []

-- no name is below the one before it, byte by byte
abbrev pub are_in_order : List (List ℕ) → Bool
are_in_order [] = true
are_in_order (name ∷ []) = true
are_in_order (name ∷ next ∷ names) =
    not (is_lt (slice_cmp nat_cmp next name)) && are_in_order (next ∷ names)

-- a shell keeps the name, given by its bytes, for itself
abbrev pub is_reserved : List ℕ → Bool
is_reserved name = list_any (λ kept. bytes_eq kept name) reserved_names
