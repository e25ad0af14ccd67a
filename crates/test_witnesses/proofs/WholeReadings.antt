-- A source of pieces, read or loaded by a fresh iterator to its end or its fault.
use Rattle.std.proofs.Common.{◌≡◌, List, arith, refl}
use Rattle.std.specs.Prelude.{Result}
use Rattle.std.specs.FinMap as fin
use Rattle.dotenvy.specs.Dialect.{Dialect}
use Rattle.dotenvy.specs.Environment.{Texts}
use Rattle.dotenvy.specs.Error.{Error}
use Rattle.dotenvy.specs.Iter.{IsOpen, IterState, fresh}
use Rattle.dotenvy.specs.Iteration.{CanRead, GivesItems, IsReadable, NoneRefused}
use Rattle.dotenvy.specs.Laws.{ItemsInOrder, LoadsAllLeft}
use Rattle.dotenvy.specs.LoadsRest.{LoadsRest, Rule}
use Rattle.dotenvy.specs.NextItem.{Item}
use Rattle.dotenvy.specs.Source.{Ahead}
use Rattle.test_witnesses.specs.Readings.{AreAllItems, LoadsWhole}
use Rattle.test_witnesses.proofs.WrittenPieces.{told_of}

-- a fresh iterator can read what is readable
can_read : (dialect : Dialect) (a : Ahead) → IsReadable a → CanRead (fresh (told_of a) dialect) a
can_read dialect a can =
    record { is_open = refl; is_told = (refl, can.not_interrupted); few = (let few = can.few in omega (arith, few)) }

-- the items that were taken are all
pub all_items : {A : Type 0} (dialect : Dialect) (a : Ahead) (s : IterState) (names : Texts) (given : List (Item A)) →
    ItemsInOrder A → s ≡ fresh (told_of a) dialect → GivesItems names s given × NoneRefused given →
    AreAllItems dialect names a given
all_items dialect a s names given law at_start taken can entries has =
    law dialect (told_of a) a names entries given refl can has (rw at_start at taken.0) taken.1

-- the load is that of all entries
pub loads_all : {A : Type 0} (rule : Rule) (dialect : Dialect) (a : Ahead) (s : IterState) (old new : Texts)
    (answer : Result (Unit {0}) (Error A)) → LoadsAllLeft rule A → s ≡ fresh (told_of a) dialect →
    (IsOpen s → LoadsRest rule s old answer new) → LoadsWhole rule dialect a old answer new
loads_all rule dialect a s old new answer law at_start loads can granted entries has =
    simp fin.get-empty at (law (fresh (told_of a) dialect) a old new answer entries (can_read dialect a can) has
    ((rw at_start at loads) refl) granted)
