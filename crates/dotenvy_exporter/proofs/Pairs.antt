-- Pairs that a target can be given.
use Rattle.std.proofs.Common.{◌≡◌, ℕ, Bool, true, false, not, ◌&&◌, List, [], ◌∷◌, ◌++◌, inl, inr, refl}
use Rattle.std.specs.Prelude.{Option, Some, None, IsTrue, encode_utf8_all}
use Rattle.std.specs.Str.{all_scalars}
use Rattle.std.proofs.lemmas.Bool.{cases_Bool}
use Rattle.dotenvy_format.specs.Characters.{equals_sign, line_feed}
use Rattle.dotenvy_exporter.specs.declared.refusal.Reason.{Reason}
use Rattle.dotenvy_exporter.specs.declared.target.Target.{Target}
use Rattle.dotenvy_exporter.specs.Docker.{closing, docker_refusal, fits_scanner, name_holds}
use Rattle.dotenvy_exporter.specs.Exec.{exec_refusal, is_environment_name}
use Rattle.dotenvy_exporter.specs.Kubernetes.{is_kubernetes_key, kubernetes_refusal}
use Rattle.dotenvy_exporter.specs.Shell.{is_exportable, is_shell_name, shell_refusal}
use Rattle.dotenvy_exporter.specs.Reserved.{is_reserved}
use Rattle.dotenvy_exporter.specs.Systemd.{has_noncharacter, systemd_refusal}
use Rattle.dotenvy_exporter.specs.Targets.{first_refusal, refusal, refused_or}
use Rattle.dotenvy_exporter.specs.Texts.{Pair, has, is_new}

-- docker can be given the pair
abbrev pub docker_holds : List ℕ → List ℕ → Bool
docker_holds name value =
    (name_holds name && not (has line_feed value)) && fits_scanner (name ++ equals_sign ∷ (value ++ closing value))

-- each pair can be given to docker, and is of Unicode scalar values
abbrev pub AreHeld : List Pair → Type 0
AreHeld [] = Unit {0}
AreHeld ((name, value) ∷ pairs) =
    IsTrue (docker_holds name value) × IsTrue (all_scalars (name ++ value)) × AreHeld pairs

-- each pair is a key of kubernetes and what docker can be given, and has a distinct name
abbrev pub AreKeyed : List Pair → Type 0
AreKeyed [] = Unit {0}
AreKeyed ((name, value) ∷ pairs) =
    IsTrue (docker_holds name value) × IsTrue (all_scalars (name ++ value))
    × IsTrue (is_kubernetes_key name && is_new name pairs) × AreKeyed pairs

-- a shell can export each pair, which is of Unicode scalar values, and has no NUL
abbrev pub AreExported : List Pair → Type 0
AreExported [] = Unit {0}
AreExported ((name, value) ∷ pairs) =
    IsTrue (is_exportable name) × IsTrue (all_scalars (name ++ value)) × (has 0 value ≡ false) × AreExported pairs

-- an environment can have each pair, which is of Unicode scalar values
abbrev pub AreHanded : List Pair → Type 0
AreHanded [] = Unit {0}
AreHanded ((name, value) ∷ pairs) =
    IsTrue (is_environment_name name) × IsTrue (all_scalars (name ++ value)) × (has 0 (name ++ value) ≡ false)
    × AreHanded pairs

-- each pair is of Unicode scalar values, and has a distinct name
abbrev pub AreMembers : List Pair → Type 0
AreMembers [] = Unit {0}
AreMembers ((name, value) ∷ pairs) =
    IsTrue (all_scalars (name ++ value)) × IsTrue (is_new name pairs) × AreMembers pairs

-- each pair has the name of a shell's variable, a value of Unicode scalar values without a NUL and
-- noncharacters, and a distinct name
abbrev pub AreAssigned : List Pair → Type 0
AreAssigned [] = Unit {0}
AreAssigned ((name, value) ∷ pairs) =
    IsTrue (is_shell_name name) × IsTrue (all_scalars (name ++ value)) × IsTrue (is_new name pairs) × AreAssigned
    pairs
    × (has 0 value ≡ false) × (has_noncharacter value ≡ false)

-- a pair without a refusal can be given to docker
pub docker_held : (name value : List ℕ) → docker_refusal (name, value) ≡ None → docker_holds name value ≡ true
docker_held name value none =
    elim (cases_Bool (name_holds name)) [
      | inr other ↦ absurd (let e = rw other at none in cc)
      | inl holds ↦
          elim (cases_Bool (has 0 (name ++ value))) [
            | inl nul ↦ absurd (let e = rw (holds, nul) at none in cc)
            | inr clean ↦
                elim (cases_Bool (has line_feed value)) [
                  | inl feed ↦ absurd (let e = rw (holds, clean, feed) at none in cc)
                  | inr line ↦
                      elim (cases_Bool (fits_scanner (name ++ equals_sign ∷ (value ++ closing value)))) [
                        | inl fits ↦ rw (holds, line, fits) refl
                        | inr long ↦ absurd (let e = rw (holds, clean, line, long) at none in cc)
                      ]
                ]
          ]
    ]

-- a pair without a refusal is a key of kubernetes, and can be given to docker
pub record Keyed (name value : List ℕ) : Type 0 where
  pub is_key : is_kubernetes_key name ≡ true
  pub held : docker_holds name value ≡ true

pub kubernetes_held : (name value : List ℕ) → kubernetes_refusal (name, value) ≡ None → Keyed name value
kubernetes_held name value none =
    elim (cases_Bool (is_kubernetes_key name)) [
      | inl key ↦ record { is_key = key; held = docker_held name value (rw key at none) }
      | inr other ↦ absurd (let e = rw other at none in cc)
    ]

-- a pair without a refusal can be exported by a shell, and has no NUL
pub record Exported (name value : List ℕ) : Type 0 where
  pub can : is_exportable name ≡ true
  pub clean : has 0 value ≡ false

pub shell_held : (name value : List ℕ) → shell_refusal (name, value) ≡ None → Exported name value
shell_held name value none =
    elim (cases_Bool (is_shell_name name)) [
      | inr other ↦ absurd (let e = rw other at none in cc)
      | inl is ↦
          elim (cases_Bool (is_reserved (encode_utf8_all name))) [
            | inl kept ↦ absurd (let e = rw (is, kept) at none in cc)
            | inr free ↦
                elim (cases_Bool (has 0 value)) [
                  | inl nul ↦ absurd (let e = rw (is, free, nul) at none in cc)
                  | inr clean ↦ record { can = rw (is, free) refl; clean = clean }
                ]
          ]
    ]

-- a pair without a refusal can be in an environment
pub record Handed (name value : List ℕ) : Type 0 where
  pub can : is_environment_name name ≡ true
  pub clean : has 0 (name ++ value) ≡ false

pub exec_held : (name value : List ℕ) → exec_refusal (name, value) ≡ None → Handed name value
exec_held name value none =
    elim (cases_Bool (is_environment_name name)) [
      | inr other ↦ absurd (let e = rw other at none in cc)
      | inl is ↦
          elim (cases_Bool (has 0 (name ++ value))) [
            | inl nul ↦ absurd (let e = rw (is, nul) at none in cc)
            | inr clean ↦ record { can = is; clean = clean }
          ]
    ]

-- a pair without a refusal has the name of a shell's variable, no NUL and no noncharacter
pub record Assigned (name value : List ℕ) : Type 0 where
  pub can : is_shell_name name ≡ true
  pub clean : has 0 value ≡ false
  pub taken : has_noncharacter value ≡ false

pub systemd_held : (name value : List ℕ) → systemd_refusal (name, value) ≡ None → Assigned name value
systemd_held name value none =
    elim (cases_Bool (is_shell_name name)) [
      | inr other ↦ absurd (let e = rw other at none in cc)
      | inl is ↦
          elim (cases_Bool (has 0 value)) [
            | inl nul ↦ absurd (let e = rw (is, nul) at none in cc)
            | inr clean ↦
                elim (cases_Bool (has_noncharacter value)) [
                  | inl found ↦ absurd (let e = rw (is, clean, found) at none in cc)
                  | inr taken ↦ record { can = is; clean = clean; taken = taken }
                ]
          ]
    ]

-- where no pair is refused, the first isn't, nor one of the others
pub record NoneRefused (t : Target) (pair : Pair) (pairs : List Pair) : Type 0 where
  pub own : refusal t pair ≡ None
  pub others : first_refusal t pairs ≡ None

refused_none : (name : List ℕ) (own : Option Reason) (others : Option (List ℕ × Reason)) →
    refused_or name own others ≡ None → (own ≡ None) × (others ≡ None)
refused_none name None others h = (refl, h)
refused_none name (Some why) others h = cc

pub none_refused : (t : Target) (pair : Pair) (pairs : List Pair) → first_refusal t (pair ∷ pairs) ≡ None →
    NoneRefused t pair pairs
none_refused t pair pairs none =
    let (own, others) = refused_none pair.0 (refusal t pair) (first_refusal t pairs) none in
    record { own = own; others = others }
