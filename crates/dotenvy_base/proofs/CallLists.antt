-- Lists of calls, joined.
use Rattle.std.proofs.Common.{arith}
use Rattle.std.proofs.Common.{List, [], ◌∷◌, ◌++◌}
use Rattle.std.specs.List.{AllByRecursion}
use Rattle.dotenvy_base.specs.Calls.{Call, AllMayGoOn, OnlyLastEnds, LastMovesNone}

-- what holds of each of two lists holds of each of both
pub all_of_both : {T : Type 0} (P : T → Type 0) (xs ys : List T) → AllByRecursion P xs → AllByRecursion P ys →
    AllByRecursion P (xs ++ ys)
all_of_both P [] ys all later = later
all_of_both P (x ∷ xs) ys (first, all) later = (first, all_of_both P xs ys all later)

-- where another call may follow each of the first, the last of both alone may end
pub ends_behind : (first later : List Call) → AllMayGoOn first → OnlyLastEnds later → OnlyLastEnds (first ++ later)
ends_behind [] later all ends = ends
ends_behind (call ∷ first) later all ends = grind (arith, ends_behind first later)

-- where the last of the later calls moved no byte, so did the last of both
pub last_behind : (first later : List Call) → LastMovesNone later → LastMovesNone (first ++ later)
last_behind [] later last = last
last_behind (call ∷ first) later last = grind (arith, last_behind first later)
