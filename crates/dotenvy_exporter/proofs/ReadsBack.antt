-- Each target reads what is written for it.
use Rattle.std.proofs.Common.{◌≡◌, ℕ, true, List, [], ◌∷◌, ◌++◌, refl, ap, ◌∙◌}
use Rattle.std.specs.Prelude.{Some, None}
use Rattle.std.specs.List.{list_all}
use Rattle.std.specs.Str.{all_scalars}
use Rattle.dotenvy_exporter.specs.declared.target.Target.TheVariants as target
use Rattle.dotenvy_exporter.specs.Docker.{given, given_of, gives}
use Rattle.dotenvy_exporter.specs.Laws.{AreTexts, ReadsBack}
use Rattle.dotenvy_exporter.specs.Targets.{first_refusal}
use Rattle.dotenvy_exporter.specs.Texts.{Pair, has_distinct, is_new}
use Rattle.dotenvy_exporter.proofs.DockerLines.{bytes_read as docker_bytes_read}
use Rattle.dotenvy_exporter.proofs.ExecLines.{bytes_read as exec_bytes_read}
use Rattle.dotenvy_exporter.proofs.JsonObjects.{bytes_read as json_bytes_read}
use Rattle.dotenvy_exporter.proofs.KubernetesLines.{bytes_read as kubernetes_bytes_read}
use Rattle.dotenvy_exporter.proofs.ShellLines.{bytes_read as shell_bytes_read}
use Rattle.dotenvy_exporter.proofs.SystemdLines.{bytes_read as systemd_bytes_read}
use Rattle.dotenvy_exporter.proofs.Pairs.{AreAssigned, AreExported, AreHanded, AreHeld, AreKeyed}
use Rattle.dotenvy_exporter.proofs.Pairs.{AreMembers, docker_held, exec_held, kubernetes_held}
use Rattle.dotenvy_exporter.proofs.Pairs.{none_refused, shell_held, systemd_held}
use Rattle.dotenvy_exporter.proofs.Tests.{and_left, and_right}

-- of texts the first is one, and the others are
record FirstTexts (name value : List ℕ) (pairs : List Pair) : Type 0 where
  pub scalars : all_scalars (name ++ value) ≡ true
  pub is_new : is_new name pairs ≡ true
  pub others : AreTexts pairs

first_texts : (name value : List ℕ) (pairs : List Pair) → AreTexts ((name, value) ∷ pairs) → FirstTexts name value
    pairs
first_texts name value pairs are = record {
  scalars =
      and_left (all_scalars (name ++ value)) (list_all (λ pair. all_scalars (pair.0 ++ pair.1)) pairs) are.scalars;
  is_new = and_left (is_new name pairs) (has_distinct pairs) are.distinct;
  others = record {
    scalars =
        and_right (all_scalars (name ++ value)) (list_all (λ pair. all_scalars (pair.0 ++ pair.1)) pairs) are.scalars;
    distinct = and_right (is_new name pairs) (has_distinct pairs) are.distinct;
  };
}

are_held : (pairs : List Pair) → AreTexts pairs → first_refusal target.Docker pairs ≡ None → AreHeld pairs
are_held [] are none = tt
are_held ((name, value) ∷ pairs) are none =
    let t = first_texts name value pairs are in
    let n = none_refused target.Docker (name, value) pairs none in
    (docker_held name value n.own, t.scalars, are_held pairs t.others n.others)

are_keyed : (pairs : List Pair) → AreTexts pairs → first_refusal target.Kubernetes pairs ≡ None → AreKeyed pairs
are_keyed [] are none = tt
are_keyed ((name, value) ∷ pairs) are none =
    let t = first_texts name value pairs are in
    let n = none_refused target.Kubernetes (name, value) pairs none in
    let k = kubernetes_held name value n.own in
    (k.held, t.scalars, rw (k.is_key, t.is_new) refl, are_keyed pairs t.others n.others)

are_assigned : (pairs : List Pair) → AreTexts pairs → first_refusal target.Systemd pairs ≡ None → AreAssigned pairs
are_assigned [] are none = tt
are_assigned ((name, value) ∷ pairs) are none =
    let t = first_texts name value pairs are in
    let n = none_refused target.Systemd (name, value) pairs none in
    let s = systemd_held name value n.own in
    (s.can, t.scalars, t.is_new, are_assigned pairs t.others n.others, s.clean, s.taken)

are_exported : (pairs : List Pair) → AreTexts pairs → first_refusal target.Sh pairs ≡ None → AreExported pairs
are_exported [] are none = tt
are_exported ((name, value) ∷ pairs) are none =
    let t = first_texts name value pairs are in
    let n = none_refused target.Sh (name, value) pairs none in
    let s = shell_held name value n.own in
    (s.can, t.scalars, s.clean, are_exported pairs t.others n.others)

are_handed : (pairs : List Pair) → AreTexts pairs → first_refusal target.Exec pairs ≡ None → AreHanded pairs
are_handed [] are none = tt
are_handed ((name, value) ∷ pairs) are none =
    let t = first_texts name value pairs are in
    let n = none_refused target.Exec (name, value) pairs none in
    let e = exec_held name value n.own in
    (e.can, t.scalars, e.clean, are_handed pairs t.others n.others)

are_members : (pairs : List Pair) → AreTexts pairs → AreMembers pairs
are_members [] are = tt
are_members ((name, value) ∷ pairs) are =
    let t = first_texts name value pairs are in (t.scalars, t.is_new, are_members pairs t.others)

-- items that give pairs give these
given_back : (pairs : List Pair) → given (gives pairs) ≡ Some pairs
given_back [] = refl
given_back ((name, value) ∷ pairs) = rw (given_back pairs) refl

-- each target reads of what is written exactly the pairs
pub reads_back : ReadsBack
reads_back target.Docker pairs are none =
    ap given_of (docker_bytes_read pairs (are_held pairs are none)) ∙ given_back pairs
reads_back target.Kubernetes pairs are none = kubernetes_bytes_read pairs (are_keyed pairs are none)
reads_back target.Systemd pairs are none = systemd_bytes_read pairs (are_assigned pairs are none)
reads_back target.Sh pairs are none = shell_bytes_read pairs (are_exported pairs are none)
reads_back target.Json pairs are none = json_bytes_read pairs (are_members pairs are)
reads_back target.Exec pairs are none = exec_bytes_read pairs (are_handed pairs are none)
