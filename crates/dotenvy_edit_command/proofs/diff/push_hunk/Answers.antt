use Rattle.std.proofs.Common.{◌≡◌, ◌-◌, ◌+◌, ◌++◌, arith, codes, drop, length, min, refl, string_bytes, take}
use Rattle.std.proofs.lemmas.List.{length-drop}
use Rattle.std.proofs.lemmas.Result.{on_ok_weaker}
use Rattle.dotenvy_edit_command.specs.Diffs.{hunk_head, range_text, texts}
use Rattle.dotenvy_edit_command.proofs.DiffLines.{count_before, count_shown, hunk_cut, parts_pushed}
use Rattle.dotenvy_edit_command.proofs.diff.push_hunk.Goals as goal

pub returns : goal.returns
returns g c =
    let old = c.args.old.now in
    let new = c.args.new.now in
    let front = c.same_front-front.result in
    let back = c.same_back-back.result in
    let removed = length (drop front old) - back in
    let added = length (drop front new) - back in
    let rest_old = c.split_at.ensures.back in
    let rest_new = c.split_at-2.ensures.back in
    let same : drop removed (texts (drop front old)) ≡ drop added (texts (drop front new)) =
    rw (rest_old, rest_new) at c.same_back-back.ensures.same in
    let room = rw rest_old at c.same_back-back.ensures.in_old in
    let shown : c.min-2.result ≡ min (length old - front - removed) 3 =
    omega (arith, c.min-2.ensures, room, length-drop front old, c.same_front-front.ensures.in_old) in
    let is_hunk = hunk_cut old new front removed added (front - c.min.result) c.min-2.result
    c.same_front-front.ensures.in_old c.same_front-front.ensures.same same (rw c.min.ensures refl) shown in
    let before = front - c.min.result in
    let lead = drop before (take front old) in
    let removed_lines = take removed (drop front old) in
    let added_lines = take added (drop front new) in
    let trail = take c.min-2.result (drop removed (drop front old)) in
    let lead_is : c.split_at-5.result.1.now ≡ lead = rw (c.split_at-5.ensures.back, c.split_at.ensures.front) refl in
    let removed_is : c.split_at-3.result.0.now ≡ removed_lines = rw (c.split_at-3.ensures.front, rest_old) refl in
    let added_is : c.split_at-4.result.0.now ≡ added_lines = rw (c.split_at-4.ensures.front, rest_new) refl in
    let trail_is : c.split_at-6.result.0.now ≡ trail =
    rw (c.split_at-6.ensures.front, c.split_at-3.ensures.back, rest_old) refl in
    let around = length c.split_at-5.result.1.now + length c.split_at-6.result.0.now in
    let printed : string_bytes c.in_ok-head.head ≡ codes "@@ -"
    ++ (range_text before (around + length c.split_at-3.result.0.now)
    ++ (codes " +" ++ (range_text before (around + length c.split_at-4.result.0.now) ++ codes " @@\n"))) =
    c.in_ok-head.ensures.ok in
    let counts = rw (lead_is, removed_is, added_is, trail_is) at printed in
    let head : string_bytes c.in_ok-head.head ≡ hunk_head (record {
      before = texts (take before (take front old));
      lead = texts lead;
      removed = texts removed_lines;
      added = texts added_lines;
      trail = texts trail;
      after = texts (drop c.min-2.result (drop removed (drop front old)));
    }) =
    rw (
      count_before old front before c.same_front-front.ensures.in_old (omega arith),
      count_shown lead removed_lines trail,
      count_shown lead added_lines trail,
    ) counts in
    on_ok_weaker c.push_lines-4.result
    (λ written. (
      _,
      is_hunk,
      parts_pushed c.args.text.now.items _ _ _ _ _ _ _ _ _ _
          (rw (c.as_bytes.ensures.value, head) at c.in_ok-extend_from_slice.ensures.items)
          (rw lead_is at c.in_ok-push_lines.ensures) (rw removed_is at c.in_ok-push_lines-2.ensures)
          (rw added_is at c.in_ok-push_lines-3.ensures) (rw trail_is at written),
    ))
    c.push_lines-4.ensures
