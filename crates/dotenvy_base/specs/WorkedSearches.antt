-- Worked searches: examples of which paths are asked for, and with which answer.
use Prim.Native.String.{String}
use Rattle.std.specs.Prelude.{ℕ, ◌≡◌, List, [], ◌∷◌, codes}
use Rattle.std.specs.IoError.{error_kind}
use Rattle.std.specs.declared.io.Error.{Error as IoError}
use Rattle.std.specs.declared.io.ErrorKind.TheVariants.{NotFound, PermissionDenied}
use Rattle.dotenvy_base.specs.declared.search.Look.{Look}
use Rattle.dotenvy_base.specs.declared.search.Look.TheVariants.{File, Other, Fault}
use Rattle.dotenvy_base.specs.Search.{FoundAt, EndedBy, FoundNowhere, Searches}

-- a path that is asked for, and what is at it
abbrev pub asks : String → Look → List ℕ × Look
asks path look = (codes path, look)

-- examples of searches, with an error that denies access and one that says that nothing is there
abbrev pub HaveSearchesOf : IoError → IoError → Type 0
HaveSearchesOf denied missing =
    -- the first file is the answer
    Searches (codes "/a/b") (codes ".env") (asks "/a/b/.env" Other ∷ asks "/a/.env" File ∷ [])
    (FoundAt (codes "/a/.env"))
    × Searches (codes "a") (codes ".env") (asks "a/.env" Other ∷ asks ".env" File ∷ [])
    (FoundAt (codes ".env"))
    -- an error ends the search, unless it says that nothing is there
    × Searches (codes "/a/b") (codes ".env")
    (asks "/a/b/.env" Other ∷ asks "/a/.env" (Fault denied) ∷ [])
    (EndedBy denied)
    × Searches (codes "/a/b") (codes ".env")
    (asks "/a/b/.env" Other ∷ asks "/a/.env" Other ∷ asks "/.env" (Fault missing) ∷ []) FoundNowhere
    -- an absolute name is asked for once for each directory
    × Searches (codes "/a/b") (codes "/x/.env")
    (asks "/x/.env" Other ∷ asks "/x/.env" Other ∷ asks "/x/.env" Other ∷ []) FoundNowhere

-- these examples hold for any two errors of these kinds
abbrev pub HaveSearches : Type 0
HaveSearches =
    (denied missing : IoError) → error_kind denied ≡ PermissionDenied →
    error_kind missing ≡ NotFound →
    HaveSearchesOf denied missing
