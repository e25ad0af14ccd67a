-- How both methods of a rationed allocator begin and end: `&self` is opened, and a result returned. Assumes `Logic`.
use Rattle.std.proofs.Common.{ℕ, ◌+◌, List, [], ◌∷◌, Bor}
use seplogic.Ra.Ura.{Ura}
use mir.Syntax.{Args, a_type, dnil, dcons}
use mir.Val.{Val}
use base.Logic.{ent, sep, id⊢, emp}
use base.Fml.{Fml, Lft}
use prog.Memory.{size, align, up}
use types.Logic.{Logic, sem}
use contract.Lifetimes.{Lfts}
use contract.Monad.{Fun, Mono}
use types.Kit.{‵, raw, ◌$◌, ◌∵◌, !, qed, move, keep, use0, join, fsplit, fjoin, suffices, done}
use denote.Builtin.{RefOf}
use denote.Memory.{hidden_shr}
use denote.Opens.{unhide}
use denote.Param.{bounded, param}
use denote.RattleType.{Denots, Valss}
use denote.Ref.{shr_vals}
use denote.Signature.{Slot, plain, type_at, types_at}
use denote.Steps.{nothing}
use denote.Triple.Clauses.{Ended, Clauses, Lasts, at_exit, closing}
use denote.Triple.End.{Kepts, Fins}
use denote.Triple.Entry.{Res, alive}
use denote.Triple.Statement.{Contract}
use denote.Triple.Spec.{Meets}
use denote.Triple.Walked.{Stays, stay_dropped, fits_of, has_of, walk_of, ends_at, Silent, Goes-dropped, AllGo}
use denote.Triple.Walked.{Walks, walk_Meets}
use Rattle.std.proofs.alloc.Calls.{Al, α, seen}
use Rattle.test_rationed.proofs.Asks.{Calls}
use Rattle.test_rationed.specs.contracts.Rationed as wrapper

module _ (Z : Al) where
  -- the arguments of the MIR of a method: the inner allocator, its methods, and how it is dropped
  abbrev pub args : Args
  args = bounded (a_type ∷ []) (Z.row, tt) (dcons Z.d (dcons Z.drops dnil))

  -- the parameter `&self`
  abbrev pub self : Slot 2
  self = RefOf (0 ∷ []) tt (plain (λ _. wrapper.the_row (param 0 Z.row))) (λ _. tt)

  module _ (r : Bor (wrapper.the_row Z.row).Denot) where
    -- where the inner allocator lies
    abbrev pub inner_at : ℕ × ℕ
    inner_at = (r.ref_ptr.0, r.ref_ptr.1 + up (align (α Z)) 0)

    -- where the count of requests lies
    abbrev pub count_at : ℕ × ℕ
    count_at = (r.ref_ptr.0, r.ref_ptr.1 + up 8 (up (align (α Z)) 0 + size (α Z)))

  -- what is had of a `&` to the count
  abbrev pub counted : Lft → Bor (wrapper.the_row Z.row).Denot → Fml
  counted κ r = hidden_shr Calls κ (record { value = tt }) (count_at r).0 (count_at r).1

module _ (Z : Al) {M : Type 1} {𝓤 : Ura M} (𝓛 : Logic 𝓤) (κs : Lfts 2) (r : Bor (wrapper.the_row Z.row).Denot) where
  -- `&self` is a `&` to the inner allocator, and one to the count
  pub opened : ent 𝓤 (sem 𝓛 (((self Z).row κs).own_val r (shr_vals r)))
      (sep 𝓤 (sem 𝓛 (seen Z κs.0 (inner_at Z r) r.now.inner)) (sem 𝓛 (counted Z κs.0 r)))
  opened =
      qed 𝓛 (‵ (((self Z).row κs).own_val r (shr_vals r)) ∷ []) ∵ fsplit ! $ move ! (1 ∷ []) $ unhide ! $ fsplit ! $
      fsplit ! $ move ! (1 ∷ []) $ fsplit ! $ keep ! (0 ∷ 2 ∷ []) $ move ! (1 ∷ 0 ∷ []) $ done !

module _ {n : ℕ} where
  -- nothing is had of any parameter
  abbrev pub all_dropped : (ss : List (Slot n)) (ks : Kepts ss) → Stays ss ks
  all_dropped [] ks = tt
  all_dropped (s ∷ ss) ks = (stay_dropped s ks.0, all_dropped ss ks.1)

  module _ (κs : Lfts n) where
    -- then any last values fit
    all_fit : (ss : List (Slot n)) (ks : Kepts ss) (a : Denots (types_at ss κs)) (ws : Fins κs ss ks a) →
        fits_of κs ss ks (all_dropped ss ks) a ws
    all_fit [] ks a ws = tt
    all_fit (s ∷ ss) ks a ws = (tt, all_fit ss ks.1 a.1 ws.1)

    -- and what is had is made of nothing
    none_had : {M : Type 1} {𝓤 : Ura M} (𝓛 : Logic 𝓤) (ss : List (Slot n)) (ks : Kepts ss) (a : Denots (types_at ss κs))
        (ws : Fins κs ss ks a) (vss : Valss (types_at ss κs)) →
        ent 𝓤 (emp 𝓤) (sem 𝓛 (has_of κs ss ks (all_dropped ss ks) a ws vss))
    none_had {𝓤 = 𝓤} 𝓛 [] ks a ws vss = id⊢ 𝓤 (emp 𝓤)
    none_had 𝓛 (s ∷ ss) ks a ws vss =
        qed 𝓛 [] ∵
        use0 𝓛 (‵ (has_of κs ss ks.1 (all_dropped ss ks.1) a.1 ws.1 vss.1)) (none_had 𝓛 ss ks.1 a.1 ws.1 vss.1)
        $ nothing ! $ fjoin ! $ done !

  module _ {M : Type 1} {𝓤 : Ura M} (𝓛 : Logic 𝓤) where
    -- nothing is said of any parameter
    abbrev pub AllSilent : (ss : List (Slot n)) → Kepts ss → Type 1
    AllSilent [] ks = Unit {1}
    AllSilent (s ∷ ss) ks = Silent 𝓛 n s ks.0 × AllSilent ss ks.1

    -- then nothing needs to be had of them
    all_go : (ss : List (Slot n)) (ks : Kepts ss) → AllSilent ss ks → AllGo 𝓛 n ss ks (all_dropped ss ks)
    all_go [] ks silent = tt
    all_go (s ∷ ss) ks silent = (Goes-dropped 𝓛 n s ks.0 silent.0, all_go ss ks.1 silent.1)

-- at the end of a method nothing is had of its parameters
abbrev pub dropped : (T : Ended) → Stays T.signature.params T.kept
dropped T = all_dropped T.signature.params T.kept

module _ {M : Type 1} {𝓤 : Ura M} (𝓛 : Logic 𝓤) (T : Ended) (c : Clauses 𝓤 T) where
  -- the triple in which the walk of a method ends
  abbrev pub Walk : Contract 𝓤
  Walk = walk_of 𝓛 T (dropped T) c

  -- it ends at a result that is owned, where the tokens are had and the `ensures` holds
  pub ends : (y : Walk.Ghost) (v : Val) (r : Res T.signature y.0.0) (ws : Lasts T y.0.0 y.0.3) →
      ent 𝓤 (sep 𝓤 (alive 𝓛 T.signature y.0.0 y.0.1)
      (sep 𝓤 (sem 𝓛 ((type_at T.signature.result y.0.0).own_val r (v ∷ [])))
      ((c y.0.0 y.0.3).ensures y.1 r (at_exit T y.0.0 y.0.3 ws))))
      (Walk.post y v)
  ends y v r ws =
      qed 𝓛 (raw (alive 𝓛 T.signature y.0.0 y.0.1) ∷ ‵ ((type_at T.signature.result y.0.0).own_val r (v ∷ []))
      ∷ raw ((c y.0.0 y.0.3).ensures y.1 r (at_exit T y.0.0 y.0.3 ws)) ∷ []) ∵
      suffices ! _ (ends_at 𝓛 T (dropped T) c y v r ws (all_fit y.0.0 T.signature.params T.kept y.0.3 ws)) $
      use0 𝓛 (‵ (has_of y.0.0 T.signature.params T.kept (dropped T) y.0.3 ws y.0.4))
      (none_had y.0.0 𝓛 T.signature.params T.kept y.0.3 ws y.0.4) $
      move ! (0 ∷ 2 ∷ []) $ join ! $ move ! (1 ∷ 0 ∷ []) $ join ! $ done !

  -- a run that meets the triple of the walk meets the contract
  pub meets : AllSilent 𝓛 T.signature.params T.kept → (run : Fun 𝓤) → ((vs : List Val) → Mono 𝓤 (run vs)) →
      Walks 𝓛 T (dropped T) run c → Meets 𝓛 T.signature run (closing 𝓛 T c)
  meets silent = walk_Meets 𝓛 T (dropped T) (all_go 𝓛 T.signature.params T.kept silent) c
