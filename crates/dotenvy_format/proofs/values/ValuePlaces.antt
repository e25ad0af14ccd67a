-- Which fronts begin a value, and the place of a fault in one.
use Rattle.std.proofs.Common.{◌≡◌, ℕ, true, List, [], ◌∷◌, ◌++◌, Some, None, refl}
use Rattle.std.proofs.Common.{◌⊎◌, inl, inr, append_assoc, arith, take}
use Rattle.std.specs.Prelude.{IsTrue, ◌↔◌}
use Rattle.std.specs.Char.{is_ascii}
use Rattle.std.specs.List.{list_all}
use Rattle.dotenvy_format.specs.declared.dialect.Dialect.{Dialect}
use Rattle.dotenvy_format.specs.Characters.{single_quote, double_quote, right_brace}
use Rattle.dotenvy_format.specs.declared.text.Quoting.TheVariants.{Unquoted, DoubleQuoted}
use Rattle.dotenvy_format.specs.Value.{Piece, Text, Name, LastBackslash}
use Rattle.dotenvy_format.specs.Value.{ends_name, IsValue}
use Rattle.dotenvy_format.proofs.bytes.NameCharacters.{no_names}
use Rattle.dotenvy_format.specs.Places.{BeginsValue, IsPlace}
use Rattle.dotenvy_format.proofs.values.Readings.{name_ended}
use Rattle.dotenvy_format.proofs.values.Values.{read-value, value-read}
use Rattle.dotenvy_format.specs.inside.ReadValue.{ValueMode, base, escaping, in_single, naming}
use Rattle.dotenvy_format.specs.inside.ReadValue.{bracing, in_tail, in_comment, ValueReading}
use Rattle.dotenvy_format.specs.inside.ReadValue.{ValueStep, given, read_value}
use Rattle.dotenvy_format.specs.inside.ReadValue.{value_goes, value_reach}
use Rattle.dotenvy_format.proofs.Fronts.{Placed, Leads, placed_on, placed_before, placed_at_end}

-- read from this mode, the text can be completed to one that gives pieces
abbrev Completes : (dialect : Dialect) → List ℕ → ValueMode → Type 0
Completes dialect text m = (more : List ℕ) × (pieces : List Piece) × (read_value dialect (text ++ more) m ≡ Some pieces)

-- the same by ASCII characters
abbrev CompletesByText : (dialect : Dialect) → List ℕ → ValueMode → Type 0
CompletesByText dialect text m =
    (more : List ℕ) × (pieces : List Piece) × IsTrue (list_all is_ascii more)
    × (read_value dialect (text ++ more) m ≡ Some pieces)

-- a space ends each bare name, and means itself
space_ends : (dialect : Dialect) (name : List ℕ) → ends_name dialect DoubleQuoted name 32 ≡ true
space_ends dialect name = grind (arith, no_names dialect)

-- from each mode the empty text can be completed
completes_by_text : (dialect : Dialect) (m : ValueMode) → CompletesByText dialect [] m
completes_by_text dialect (base Unquoted) = ([], [], refl, refl)
completes_by_text dialect (base DoubleQuoted) = (double_quote ∷ [], [], refl, refl)
completes_by_text dialect (escaping Unquoted) = ([], LastBackslash ∷ [], refl, refl)
completes_by_text dialect (escaping DoubleQuoted) = (110 ∷ double_quote ∷ [], Text (10 ∷ []) ∷ [], refl, refl)
completes_by_text dialect (in_single inner) = (single_quote ∷ [], Text inner ∷ [], refl, refl)
completes_by_text dialect (naming Unquoted name) = ([], Name name [] ∷ [], refl, refl)
completes_by_text dialect (naming DoubleQuoted name) =
    let ended = name_ended {cs = double_quote ∷ []} (space_ends dialect name) in
    (32 ∷ double_quote ∷ [], Name name (32 ∷ []) ∷ [], refl, ended.reads)
completes_by_text dialect (bracing Unquoted name) = (right_brace ∷ [], Name name [] ∷ [], refl, refl)
completes_by_text dialect (bracing DoubleQuoted name) =
    (right_brace ∷ double_quote ∷ [], Name name [] ∷ [], refl, refl)
completes_by_text dialect in_tail = ([], [], refl, refl)
completes_by_text dialect in_comment = ([], [], refl, refl)

-- from each mode the empty text can be completed by some list of numbers
completes : (dialect : Dialect) (m : ValueMode) → Completes dialect [] m
completes dialect m = let by = completes_by_text dialect m in (by.0, by.1, by.3)

-- where something is read with pieces before it, something is read without them
given_some : (ps qs : List Piece) (r : ValueReading) → given ps r ≡ Some qs → (rs : List Piece) × (r ≡ Some rs)
given_some ps qs None h = cc
given_some ps qs (Some rs) h = (rs, refl)

-- what can be completed from where a character leads can be with it before it, and conversely
leads_on : (dialect : Dialect) (m : ValueMode) (c : ℕ) (n : ValueMode) (ps : List Piece) →
    value_goes dialect m c ≡ Some (n, ps) → Leads (Completes dialect) m c n
leads_on dialect m c n ps g = record {
  on = λ cs done. (done.0, ps ++ done.1, rw (g, done.2));
  back = λ cs done.
      let r = given_some ps done.1 (read_value dialect (cs ++ done.0) n) (rw g at done.2) in
      (done.0, r.0, r.1);
}

-- a text whose first character leads nowhere can't be completed
goes_nowhere : (dialect : Dialect) (m : ValueMode) (c : ℕ) (cs : List ℕ) → value_goes dialect m c ≡ None →
    ¬ (Completes dialect (c ∷ cs) m)
goes_nowhere dialect m c cs g (more, qs, h) = let e : None ≡ Some qs = rw g at h in cc

-- a step leads nowhere, or to a mode
step_cases : (g : ValueStep) → (g ≡ None) ⊎ ((n : ValueMode) × (ps : List Piece) × (g ≡ Some (n, ps)))
step_cases None = inl refl
step_cases (Some (n, ps)) = inr (n, ps, refl)

-- what can be completed can be by ASCII characters
by_text : (dialect : Dialect) (text : List ℕ) (m : ValueMode) → Completes dialect text m →
    CompletesByText dialect text m
by_text dialect [] m done = completes_by_text dialect m
by_text dialect (c ∷ cs) m done = elim (step_cases (value_goes dialect m c)) [
  | inl h ↦ absurd (goes_nowhere dialect m c cs h done)
  | inr (n, ps, h) ↦
      let by = by_text dialect cs n ((leads_on dialect m c n ps h).back cs done) in
      (by.0, ps ++ by.1, by.2, rw (h, by.3))
]

-- from each mode, the place that is computed is the length of the longest front that can be completed
placed : (dialect : Dialect) (text : List ℕ) (m : ValueMode) →
    Placed (Completes dialect) text m (value_reach dialect text m)
placed dialect [] m = placed_at_end (Completes dialect) m (completes dialect m)
placed dialect (c ∷ cs) m = elim (step_cases (value_goes dialect m c)) [
  | inl h ↦ rw h (placed_before (Completes dialect) m c cs (completes dialect m) (goes_nowhere dialect m c [] h))
  | inr (n, ps, h) ↦
      rw h (placed_on (Completes dialect) m c n cs (value_reach dialect cs n) (leads_on dialect m c n ps h)
      (placed dialect cs n))
]

-- what can be completed, read from where a value begins, is the front of a value, and conversely
begins : (dialect : Dialect) (text : List ℕ) → Completes dialect text (base Unquoted) ↔ BeginsValue dialect text
begins dialect text = (
  λ done. (done.0, done.1, value-read dialect (text ++ done.0) done.1 done.2),
  λ done. (done.0, done.1, read-value dialect (text ++ done.0) done.1 done.2),
)

-- a front of a value can be completed to one by ASCII characters
pub value_by_text : (dialect : Dialect) (front : List ℕ) → BeginsValue dialect front →
    (more : List ℕ) × (pieces : List Piece) × IsTrue (list_all is_ascii more) × IsValue dialect (front ++ more) pieces
value_by_text dialect front h =
    let by = by_text dialect front (base Unquoted) ((begins dialect front).1 h) in
    (by.0, by.1, by.2, value-read dialect (front ++ by.0) by.1 by.3)

-- the place that is computed of a text is that of its longest front that begins a value
pub value_place : (dialect : Dialect) (text : List ℕ) →
    IsPlace (BeginsValue dialect) text (value_reach dialect text (base Unquoted))
value_place dialect text =
    let p = placed dialect text (base Unquoted) in
    record {
      within = p.within;
      completed = (begins dialect (take (value_reach dialect text (base Unquoted)) text)).0 p.completed;
      longest = λ below h. p.longest below ((begins dialect _).1 h);
    }

-- a front of the front of a value is the front of a value
pub value_fronts : (dialect : Dialect) (text more : List ℕ) → BeginsValue dialect (text ++ more) →
    BeginsValue dialect text
value_fronts dialect text more (rest, ps, h) = (more ++ rest, ps, rw append_assoc at h)
