use Rattle.std.proofs.Common.{◌≡◌, ◌+◌, [], append-nil, arith, drop, false, inl, inr, refl, rules, string_bytes, take}
use Rattle.std.proofs.Common.{true}
use Rattle.std.proofs.lemmas.List.{drop_all}
use Rattle.std.proofs.lemmas.Result.{err_from_is_err_and}
use Rattle.dotenvy_words.specs.Found.{texts}
use Rattle.std.specs.Str.{chars}
use Rattle.std.proofs.lemmas.Str.{IsUtf8-string_bytes}
use Rattle.dotenvy_edit_command.specs.Edited.{IsUnset, bytes_of, each_once, is_among}
use Rattle.dotenvy_edit_command.proofs.KeptUnsets.{could_unset}
use Rattle.dotenvy_edit_command.proofs.UnsetNames.{keeps_next, keeps_passed, made_next, memory_only, passed}
use Rattle.dotenvy_edit_command.proofs.UnsetNames.{refused_later, refused_next, texts_from, texts_to}
use Rattle.dotenvy_edit_command.proofs.edits.unset_names.Goals as goal
use Rattle.dotenvy_edit_command.proofs.edits.unset_names.Goals.{then-not-is_among+in_ok-said+in_ok-push_str+in_ok-all}
use Rattle.dotenvy_edit_command.proofs.edits.unset_names.Goals.{else-not-is_among}

pub names-init : goal.names-init
names-init g c =
    let bytes = c.in_ok-from_slice.ensures.items in
    record {
      inside = omega arith;
      made = λ new said is. rw c.new.ensures.bytes (rw (bytes, c.bytes.ensures) at is);
      refused = λ failed is. is;
      keeps = λ other utf8 not can. rw (bytes, c.bytes.ensures) can;
    }

pub returns-in_err-said-clause-unsets : goal.returns-in_err-said-clause-unsets
returns-in_err-said-clause-unsets g c =
    let refused = err_from_is_err_and c.from_residual-in_err-said.result c.from_residual-in_err-said.ensures.1 in
    let name = c.as_str-name.ensures.value in
    let from =
    texts_from c.args.names.now c.names.index c.index-names-index.result c.names-test.true c.index-names-index.is in
    let earlier = texts (take c.names.index c.args.names.now) in
    let later = texts (drop (c.names.index + 1) c.args.names.now) in
    let not : is_among earlier c.as_str-name.result.now ≡ false = search rules in
    rw (refused.1, refused.2)
    (inr (refused_next c.args.old.now.how (string_bytes c.args.old.now.file) (bytes_of c.args.old.now.bytes)
    earlier later (each_once [] (texts c.args.names.now))
    (string_bytes c.index-names-index.result) (rw name at not) (rw from at c.names.invariant.refused) _
    (rw (c.bytes-then-not-is_among.ensures, name) at c.in_err-said.ensures.unsets)))

pub returns-in_err-all-clause-unsets : goal.returns-in_err-all-clause-unsets
returns-in_err-all-clause-unsets g c =
    let refused = err_from_is_err_and c.from_residual-in_err-all.result c.from_residual-in_err-all.ensures.1 in
    let name = c.as_str-name.ensures.value in
    let from =
    texts_from c.args.names.now c.names.index c.index-names-index.result c.names-test.true c.index-names-index.is in
    let earlier = texts (take c.names.index c.args.names.now) in
    let later = texts (drop (c.names.index + 1) c.args.names.now) in
    let not : is_among earlier c.as_str-name.result.now ≡ false = search rules in
    let unset : IsUnset c.args.old.now.how (string_bytes c.args.old.now.file) (bytes_of c.args.old.now.bytes)
    (string_bytes c.index-names-index.result) c.in_ok-said.field-0 =
    rw (c.bytes-then-not-is_among.ensures, name) at c.in_ok-said.ensures.unsets in
    let can = could_unset c.args.old.now.how.dialect (chars (string_bytes c.index-names-index.result))
    (bytes_of c.args.old.now.bytes) c.in_ok-said.field-0.bytes.items unset.0 in
    let still = c.names.invariant.keeps (string_bytes c.index-names-index.result)
    (IsUtf8-string_bytes c.index-names-index.result) (rw name at not) can in
    rw (refused.1, refused.2)
    (inl (memory_only c.args.old.now.how (string_bytes c.args.old.now.file) c.names.all.bytes.items
    (string_bytes c.index-names-index.result) _ still
    (rw (c.as_slice.ensures.value, name) at c.in_err-all.ensures.unsets)))

pub names-preserved : goal.names-preserved
names-preserved g c =
    let name = c.as_str-name.ensures.value in
    let from =
    texts_from c.args.names.now c.names.index c.index-names-index.result c.names-test.true c.index-names-index.is in
    let to =
    texts_to c.args.names.now c.names.index c.index-names-index.result c.names-test.true c.index-names-index.is in
    let earlier = texts (take c.names.index c.args.names.now) in
    let later = texts (drop (c.names.index + 1) c.args.names.now) in
    elim c.if-not-is_among.branch [
      | then-not-is_among+in_ok-said+in_ok-push_str+in_ok-all w ↦ (
          let not : is_among earlier c.as_str-name.result.now ≡ false = search rules in
          record {
            inside = omega (arith, c.names-test.true);
            made = rw (to, w.all-is, w.in_ok-push_str.ensures.bytes, w.as_str.ensures.value)
                (made_next c.args.old.now.how (string_bytes c.args.old.now.file) (bytes_of c.args.old.now.bytes)
                c.names.all.bytes.items w.in_ok-all.field-0.bytes.items earlier later
                (each_once [] (texts c.args.names.now)) (string_bytes c.index-names-index.result)
                (string_bytes c.names.all.said) w.in_ok-said.field-0 (rw name at not)
                (rw (w.bytes-then-not-is_among.ensures, name) at w.in_ok-said.ensures.unsets)
                (rw (w.as_slice.ensures.value, name) at w.in_ok-all.ensures.unsets).0
                (rw from at c.names.invariant.made));
            refused = rw to
                (refused_later c.args.old.now.how (string_bytes c.args.old.now.file) (bytes_of c.args.old.now.bytes)
                earlier later (each_once [] (texts c.args.names.now)) (string_bytes c.index-names-index.result)
                w.in_ok-said.field-0 (rw name at not)
                (rw (w.bytes-then-not-is_among.ensures, name) at w.in_ok-said.ensures.unsets)
                (rw from at c.names.invariant.refused));
            keeps = rw (to, w.all-is)
                (keeps_next c.args.old.now.how.dialect (bytes_of c.args.old.now.bytes) c.names.all.bytes.items
                w.in_ok-all.field-0.bytes.items earlier (string_bytes c.index-names-index.result)
                (IsUtf8-string_bytes c.index-names-index.result)
                (rw (w.as_slice.ensures.value, name) at w.in_ok-all.ensures.unsets).0 c.names.invariant.keeps);
          })
      | else-not-is_among w ↦ (
          let there : is_among earlier c.as_str-name.result.now ≡ true = search rules in
          let same = passed earlier (string_bytes c.index-names-index.result) later (rw name at there) in
          record {
            inside = omega (arith, c.names-test.true);
            made = rw (to, w.all-is, ← same) (rw from at c.names.invariant.made);
            refused = rw (to, ← same) (rw from at c.names.invariant.refused);
            keeps = rw (to, w.all-is)
                (keeps_passed c.args.old.now.how.dialect (bytes_of c.args.old.now.bytes) c.names.all.bytes.items
                earlier (string_bytes c.index-names-index.result) c.names.invariant.keeps);
          })
    ]

pub returns-clause-unsets : goal.returns-clause-unsets
returns-clause-unsets g c =
    let none = drop_all c.names.index c.args.names.now c.names-test.false in
    rw (append-nil _) at (c.names.invariant.made c.names.all.bytes.items [] (rw none (refl, refl)))
