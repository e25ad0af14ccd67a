-- What each target reads, and what is written for it.
use Rattle.std.specs.Prelude.{ℕ, ◌≡◌, List, [], ◌∷◌, Option, Some, None, Result, Ok, Err}
use Rattle.std.specs.Prelude.{encode_utf8_all, string_bytes}
use Rattle.std.specs.Str.{chars}
use Rattle.dotenvy_base.specs.Output.{Sends, most_writes}
use Rattle.dotenvy_base.specs.Source.{SinkTold}
use Rattle.dotenvy_base.specs.declared.errors.Error.{Error}
use Rattle.dotenvy_format.specs.Written.{written_bytes}
use Rattle.dotenvy_exporter.specs.declared.export.Unwritten.{Unwritten}
use Rattle.dotenvy_exporter.specs.declared.export.Unwritten.TheVariants.{Refused, Write, Memory}
use Rattle.dotenvy_exporter.specs.declared.refusal.Reason.{Reason}
use Rattle.dotenvy_exporter.specs.declared.refusal.Refusal.{Refusal}
use Rattle.dotenvy_exporter.specs.declared.target.Target.{Target}
use Rattle.dotenvy_exporter.specs.declared.target.Target.TheVariants as target
use Rattle.dotenvy_exporter.specs.Docker.{docker_reads_pairs, docker_refusal, docker_text}
use Rattle.dotenvy_exporter.specs.Exec.{exec_reads_bytes, exec_refusal, exec_text}
use Rattle.dotenvy_exporter.specs.Json.{json_bytes, json_reads_bytes}
use Rattle.dotenvy_exporter.specs.Kubernetes.{kubernetes_reads_bytes, kubernetes_refusal}
use Rattle.dotenvy_exporter.specs.Shell.{shell_reads_bytes, shell_refusal, shell_text}
use Rattle.dotenvy_exporter.specs.Systemd.{systemd_reads_bytes, systemd_refusal}
use Rattle.dotenvy_exporter.specs.Texts.{Pair}

-- what the target reads of bytes: pairs in order, or None where it refuses them
abbrev pub reads : Target → List ℕ → Option (List Pair)
reads target.Docker bytes = docker_reads_pairs bytes
reads target.Kubernetes bytes = kubernetes_reads_bytes bytes
reads target.Systemd bytes = systemd_reads_bytes bytes
reads target.Sh bytes = shell_reads_bytes bytes
reads target.Json bytes = json_reads_bytes bytes
reads target.Exec bytes = exec_reads_bytes bytes

-- what is written of pairs for the target
abbrev pub written_for : Target → List Pair → List ℕ
written_for target.Docker pairs = encode_utf8_all (docker_text pairs)
written_for target.Kubernetes pairs = encode_utf8_all (docker_text pairs)
written_for target.Systemd pairs = written_bytes pairs
written_for target.Sh pairs = encode_utf8_all (shell_text pairs)
written_for target.Json pairs = json_bytes pairs
written_for target.Exec pairs = encode_utf8_all (exec_text pairs)

-- why the target can't be given this pair, if it can't
abbrev pub refusal : Target → Pair → Option Reason
refusal target.Docker pair = docker_refusal pair
refusal target.Kubernetes pair = kubernetes_refusal pair
refusal target.Systemd pair = systemd_refusal pair
refusal target.Sh pair = shell_refusal pair
refusal target.Json pair = None
refusal target.Exec pair = exec_refusal pair

-- the refusal of this name, if there is one, or that of the others
abbrev pub refused_or : List ℕ → Option Reason → Option (List ℕ × Reason) →
    Option (List ℕ × Reason)
refused_or name None others = others
refused_or name (Some reason) others = Some (name, reason)

-- the first of these pairs that the target can't be given: its name, and why
abbrev pub first_refusal : Target → List Pair → Option (List ℕ × Reason)
first_refusal t [] = None
first_refusal t (pair ∷ pairs) = refused_or pair.0 (refusal t pair) (first_refusal t pairs)

-- the refusal is that of the first pair that the target can't be given
abbrev pub IsRefusalOf : {A : Type 0} → Target → List Pair → Refusal A → Type 0
IsRefusalOf t pairs refused =
    first_refusal t pairs ≡ Some (chars (string_bytes refused.name), refused.reason)

-- what is written of pairs is sent to a sink with this result, and the target reads of it exactly
-- these pairs
abbrev pub SendsPairs : {A W : Type 0} → (W → SinkTold) → Target → List Pair → W → W →
    Result (Unit {0}) (Error A) → Type 0
SendsPairs {A = A} told t pairs old new result =
    (reads t (written_for t pairs) ≡ Some pairs)
    × Sends {A = A} told most_writes old new (written_for t pairs) result

-- pairs are written for a target: all of them, or none if the target can't be given one of them
abbrev pub WritesFor : {A W : Type 0} → (W → SinkTold) → Target → List Pair → W → W →
    Result (Unit {0}) (Unwritten A) → Type 0
WritesFor {A = A} told t pairs old new (Ok done) =
    (first_refusal t pairs ≡ None) × SendsPairs {A = A} told t pairs old new (Ok tt)
WritesFor told t pairs old new (Err (Refused refused)) =
    IsRefusalOf t pairs refused × (new ≡ old)
WritesFor told t pairs old new (Err (Write error)) =
    (first_refusal t pairs ≡ None) × SendsPairs told t pairs old new (Err error)
WritesFor told t pairs old new (Err (Memory failed)) = new ≡ old

-- the code's refusal, as the name and the reason
abbrev pub refusal_of : {A : Type 0} → Refusal A → List ℕ × Reason
refusal_of refused = (chars (string_bytes refused.name), refused.reason)

-- an allocation failed
abbrev pub IsMemory : {A : Type 0} → Unwritten A → Type 0
IsMemory (Refused refused) = ⊥
IsMemory (Write error) = ⊥
IsMemory (Memory failed) = Unit {0}
