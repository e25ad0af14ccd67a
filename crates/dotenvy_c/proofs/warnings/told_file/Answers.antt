use Rattle.std.proofs.Common.{◌≡◌, ◌+◌, ◌∙◌, [], ◌∷◌, ◌++◌, ap, drop, length, rules}
use Rattle.std.proofs.lemmas.List.{drop_all}
use Rattle.dotenvy_c.specs.Warnings.{told_at, warning_name, warning_told}
use Rattle.dotenvy_c.proofs.Warned.{all_told, left_at, none_told, one_told}
use Rattle.dotenvy_c.proofs.warnings.told_file.Goals as goal

pub warnings-init : goal.warnings-init
warnings-init c = rw c.deref-warning-items.ensures.value (none_told _ _ _ c.new-warnings.ensures.items)

pub warnings-preserved : goal.warnings-preserved
warnings-preserved c =
    let warning = c.warning-item.result in
    let noted = c.warning_told-noted.ensures in
    let all = c.deref-warning-items.result.now in
    let is : drop c.warnings.warning-index all ≡ warning ∷ drop (c.warnings.warning-index + 1) all =
    left_at all _ warning c.warnings-test.true c.warning-item.is in
    let place : c.len.result ≡ length c.warnings.bytes.items = search rules in
    let bytes : c.extend_from_slice.new.self.items ≡ c.warnings.bytes.items ++ warning_name warning =
    c.in_ok-extend_from_slice.ensures.items ∙ ap (λ n. c.warnings.bytes.items ++ n.name) noted in
    let told : c.push.new.self.items
    ≡ c.warnings.warnings.items ++ told_at (length c.warnings.bytes.items) (warning_told warning) ∷ [] =
    rw (← place, ← noted) c.in_ok-push.ensures.items in
    one_told is bytes told c.warnings.invariant

pub returns : goal.returns
returns c =
    let none = drop_all c.warnings.warning-index c.deref-warning-items.result.now c.warnings-test.false in
    let all = all_told (rw none at c.warnings.invariant) in
    record { bytes = all.0; warnings = all.1 }
