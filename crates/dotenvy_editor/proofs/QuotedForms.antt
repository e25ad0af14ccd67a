-- A value in quotes is one token of a line, and is read as this value.
use Rattle.std.proofs.Common.{◌≡◌, ℕ, Bool, true, false, not, ◌&&◌, ◌||◌, List, [], ◌∷◌, ◌++◌, map, refl, sym, ap}
use Rattle.std.proofs.Common.{◌∙◌, arith}
use Rattle.std.proofs.Common.{append_assoc, append-nil, inl, inr}
use Rattle.std.specs.Prelude.{◌==◌}
use Rattle.std.specs.List.{flat_map, list_all}
use Rattle.std.proofs.lemmas.Bool.{and_parts, cases_Bool, eqb-true}
use Rattle.std.proofs.lemmas.Bool.Decides.{nat_tests}
use Rattle.std.proofs.lemmas.List.Folds.{list_all-append}
use Rattle.std.proofs.Math.Utf8.{scalar, scalars}
use Rattle.dotenvy_format.specs.declared.text.Quoting.TheVariants.{DoubleQuoted}
use Rattle.dotenvy_format.specs.declared.dialect.Dialect.{Dialect}
use Rattle.dotenvy_format.specs.Characters.{backslash, double_quote, is_quote, letter_n, line_feed, single_quote}
use Rattle.dotenvy_format.specs.Tokens.{QuotedCharacter, one, pair, is_quoted, quoted_text}
use Rattle.dotenvy_format.specs.Value.{IsPart, AreParts, IsValue, Part, Piece, Text, plain, escape, single, double}
use Rattle.dotenvy_format.specs.Value.{no_close, part_pieces, part_text, parts_text}
use Rattle.dotenvy_format.specs.Written.{needs_backslash}
use Rattle.dotenvy_format.proofs.writing.ReadBack.{meaning-characters}
use Rattle.dotenvy_editor.specs.Ends.{ends_in}
use Rattle.dotenvy_editor.specs.Forms.{has, in_double_quotes, in_single_quotes, on_one_line}
use Rattle.dotenvy_editor.specs.Lines.{MeansText}
use Rattle.dotenvy_editor.specs.inside.Tried.{double_character}

-- the form is one quoted part, and is read as the value
pub record IsQuotedForm (value form : List ℕ) : Type 0 where
  pub quote : ℕ
  pub inner : List QuotedCharacter
  pub quotes : is_quote quote ≡ true
  pub are_quoted : list_all (is_quoted quote) inner ≡ true
  pub spelled : form ≡ quote ∷ (flat_map quoted_text inner ++ quote ∷ [])
  pub are_scalars : scalars form ≡ true
  pub pieces : List Piece
  pub is_value : (dialect : Dialect) → IsValue dialect form pieces
  pub means : MeansText pieces value

-- In double quotes, on one line or not.
-- how a character stands between double quotes
record Stands (is_one_line : Bool) (c : ℕ) : Type 0 where
  part : Part
  item : QuotedCharacter
  is_part : (dialect : Dialect) (after : List ℕ) → IsPart dialect DoubleQuoted part after
  is_item : is_quoted double_quote item ≡ true
  part_is : part_text part ≡ double_character is_one_line c
  item_is : quoted_text item ≡ double_character is_one_line c
  are_scalars : scalar c ≡ true → scalars (double_character is_one_line c) ≡ true
  means : part_pieces part ≡ Text (c ∷ []) ∷ []

-- a character that needs a backslash, and one that doesn't, as it is written on several lines
written : (c : ℕ) → Stands false c
written c = elim (cases_Bool (needs_backslash c)) [
  | inl needs ↦ record {
    part = escape c;
    item = pair c;
    is_part = λ dialect after. grind (arith, nat_tests, needs);
    is_item = refl;
    part_is = rw needs refl;
    item_is = rw needs refl;
    are_scalars = λ h. rw (needs, h) refl;
    means = grind (arith, nat_tests, needs);
  }
  | inr lacks ↦ record {
    part = plain c;
    item = one c;
    is_part = λ dialect after. rw lacks refl;
    is_item = grind (arith, nat_tests, lacks);
    part_is = rw lacks refl;
    item_is = rw lacks refl;
    are_scalars = λ h. rw (lacks, h) refl;
    means = refl;
  }
]

stands : (is_one_line : Bool) (c : ℕ) → Stands is_one_line c
stands false c = written c
stands true c = elim (cases_Bool (c == line_feed)) [
  | inl is ↦ record {
    part = escape letter_n;
    item = pair letter_n;
    is_part = λ dialect after. refl;
    is_item = refl;
    part_is = rw is refl;
    item_is = rw is refl;
    are_scalars = λ h. rw is refl;
    means = rw (eqb-true c line_feed is) refl;
  }
  | inr other ↦
      let w = written c in record {
        part = w.part;
        item = w.item;
        is_part = w.is_part;
        is_item = w.is_item;
        part_is = rw other w.part_is;
        item_is = rw other w.item_is;
        are_scalars = λ h. rw other (w.are_scalars h);
        means = w.means;
      }
]

-- how the characters of a text stand between double quotes
record AllStand (is_one_line : Bool) (text : List ℕ) : Type 0 where
  parts : List Part
  items : List QuotedCharacter
  are_parts : (dialect : Dialect) (after : List ℕ) → AreParts dialect DoubleQuoted parts after
  are_items : list_all (is_quoted double_quote) items ≡ true
  parts_are : parts_text parts ≡ flat_map (double_character is_one_line) text
  items_are : flat_map quoted_text items ≡ flat_map (double_character is_one_line) text
  are_scalars : scalars text ≡ true → scalars (flat_map (double_character is_one_line) text) ≡ true
  mean : flat_map part_pieces parts ≡ map (λ c. Text (c ∷ [])) text

all_stand : (is_one_line : Bool) (text : List ℕ) → AllStand is_one_line text
all_stand is_one_line [] = record {
  parts = [];
  items = [];
  are_parts = λ dialect after. tt;
  are_items = refl;
  parts_are = refl;
  items_are = refl;
  are_scalars = λ h. refl;
  mean = refl;
}
all_stand is_one_line (c ∷ text) =
    let s = stands is_one_line c in
    let r = all_stand is_one_line text in record {
      parts = s.part ∷ r.parts;
      items = s.item ∷ r.items;
      are_parts = λ dialect after. (s.is_part dialect (parts_text r.parts ++ after), r.are_parts dialect after);
      are_items = rw s.is_item r.are_items;
      parts_are = rw (s.part_is, r.parts_are) refl;
      items_are = rw (s.item_is, r.items_are) refl;
      are_scalars = λ h.
          let e = and_parts (scalar c) (scalars text) h in
          list_all-append scalar (double_character is_one_line c) (flat_map (double_character is_one_line) text)
          ∙ rw (s.are_scalars e.0) (r.are_scalars e.1);
      mean = rw (s.means, r.mean) refl;
    }

-- quotes around a text of scalar values are one
quotes_scalars : (quote : ℕ) (text : List ℕ) → scalar quote ≡ true → scalars text ≡ true →
    scalars (quote ∷ (text ++ quote ∷ [])) ≡ true
quotes_scalars quote text q h =
    rw (q, list_all-append scalar text (quote ∷ []), h, q) refl

-- a value between double quotes is read as it
double_form : (is_one_line : Bool) (value : List ℕ) → scalars value ≡ true →
    IsQuotedForm value (double_quote ∷ (flat_map (double_character is_one_line) value ++ double_quote ∷ []))
double_form is_one_line value h =
    let all = all_stand is_one_line value in
    let quoted = double_quote ∷ (flat_map (double_character is_one_line) value ++ double_quote ∷ []) in record {
      quote = double_quote;
      inner = all.items;
      quotes = refl;
      are_quoted = all.are_items;
      spelled = rw all.items_are refl;
      are_scalars =
          quotes_scalars double_quote (flat_map (double_character is_one_line) value) refl (all.are_scalars h);
      pieces = map (λ c. Text (c ∷ [])) value;
      is_value = λ dialect. record {
        segments = double all.parts ∷ [];
        close = no_close;
        are_segments = (all.are_parts dialect (double_quote ∷ []), tt);
        is_close = tt;
        spelled = rw all.parts_are (sym (append-nil (quoted ++ []) ∙ append-nil quoted));
        means = sym (simp (append-nil, all.mean));
      };
      means = λ look. meaning-characters look value;
    }

pub in_double : (value : List ℕ) → scalars value ≡ true → IsQuotedForm value (in_double_quotes value)
in_double value h = double_form false value h

pub in_one_line : (value : List ℕ) → scalars value ≡ true → IsQuotedForm value (on_one_line value)
in_one_line value h = double_form true value h

-- In single quotes.
-- a text as it stands between single quotes, where the splitter passes a backslash with the character after it
record StandsSingle (text : List ℕ) : Type 0 where
  items : List QuotedCharacter
  are_items : list_all (is_quoted single_quote) items ≡ true
  items_are : flat_map quoted_text items ≡ text

-- neither of two is so
neither : (b c : Bool) → (b || c) ≡ false → (b ≡ false) × (c ≡ false)
neither false c h = (refl, h)
neither true c h = let f : true ≡ false = h in absurd (cc)

-- what a text lacks at its end, what is left of it after a character lacks too
end_behind : (c d : ℕ) (text : List ℕ) → ends_in c (d ∷ text) ≡ false → ends_in c text ≡ false
end_behind c d [] h = refl
end_behind c d (e ∷ text) h = h

-- a character other than a single quote and a backslash may stand between single quotes
one_stands : (c : ℕ) (later : Bool) → (c == single_quote) ≡ false → (c == backslash) ≡ false → later ≡ true →
    (is_quoted single_quote (one c) && later) ≡ true
one_stands c later no_quote no_backslash h = rw (no_quote, no_backslash) h

single_stands : (text : List ℕ) → has single_quote text ≡ false → ends_in backslash text ≡ false → StandsSingle text
single_stands [] none shut = record { items = []; are_items = refl; items_are = refl }
single_stands (c ∷ []) none shut = record {
  items = one c ∷ [];
  are_items = one_stands c true (neither (c == single_quote) false none).0 shut refl;
  items_are = refl;
}
single_stands (c ∷ d ∷ text) none shut =
    let first = neither (c == single_quote) (has single_quote (d ∷ text)) none in
    elim (cases_Bool (c == backslash)) [
      | inl is ↦
          let rest =
          single_stands text (neither (d == single_quote) (has single_quote text) first.1).1
          (end_behind backslash d text (end_behind backslash c (d ∷ text) shut)) in record {
            items = pair d ∷ rest.items;
            are_items = rest.are_items;
            items_are =
                ap (λ more. backslash ∷ d ∷ more) rest.items_are
                ∙ ap (λ first. first ∷ d ∷ text) (sym (eqb-true c backslash is));
          }
      | inr other ↦
          let rest = single_stands (d ∷ text) first.1 (end_behind backslash c (d ∷ text) shut) in record {
            items = one c ∷ rest.items;
            are_items =
                one_stands c (list_all (is_quoted single_quote) rest.items) first.0 other rest.are_items;
            items_are = ap (◌∷◌ c) rest.items_are;
          }
    ]

-- a text that lacks a character has only others
others : (c : ℕ) (text : List ℕ) → has c text ≡ false → list_all (λ d. not (d == c)) text ≡ true
others c [] h = refl
others c (d ∷ text) h =
    let e = neither (d == c) (has c text) h in
    rw e.0 (others c text e.1)

-- a value between single quotes is read as it, where it has none and ends in no backslash
pub in_single : (value : List ℕ) → scalars value ≡ true → has single_quote value ≡ false →
    ends_in backslash value ≡ false → IsQuotedForm value (in_single_quotes value)
in_single value h none shut =
    let stand = single_stands value none shut in record {
      quote = single_quote;
      inner = stand.items;
      quotes = refl;
      are_quoted = stand.are_items;
      spelled = rw stand.items_are refl;
      are_scalars = quotes_scalars single_quote value refl h;
      pieces = Text value ∷ [];
      is_value = λ dialect. record {
        segments = single value ∷ [];
        close = no_close;
        are_segments = (others single_quote value none, tt);
        is_close = tt;
        spelled = simp (append-nil, append_assoc);
        means = refl;
      };
      means = λ look. append-nil value;
    }
