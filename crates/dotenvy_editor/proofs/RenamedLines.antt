-- The line of an assignment, cut before and after its key.
use Rattle.std.proofs.Common.{◌≡◌, ℕ, ◌+◌, ◌-◌, ◌≤◌, List, ◌∷◌, ◌++◌, length, take, drop, refl, sym, ap, ◌∙◌, arith}
use Rattle.std.proofs.Common.{append_assoc, length-append, subst}
use Rattle.std.specs.Str.{chars, encode_utf8_all, IsUtf8}
use Rattle.std.proofs.Math.Seq.{drop-append_seam, take-append_seam}
use Rattle.std.proofs.lemmas.Str.{encodes-append, encodes-chars}
use Rattle.dotenvy.specs.Characters.{byte_len, equals_sign}
use Rattle.dotenvy.specs.LogicalLine.{HasText}
use Rattle.dotenvy.specs.Outcome.{trimmed}
use Rattle.dotenvy.specs.Statement.{IsStatement}
use Rattle.dotenvy_editor.specs.Edits.{RenamesLine}
use Rattle.dotenvy_editor.specs.Slices.{HasLine}
use Rattle.dotenvy_editor.specs.Told.{IsKeyEnd}
use Rattle.dotenvy_editor.proofs.SliceTexts.{line_bytes}
use Rattle.dotenvy_editor.proofs.TrimmedTexts.{trimmed_front}

-- the bytes of a line before its key and after it
pub record KeyCut (text key rest bytes : List ℕ) (end : ℕ) : Type 0 where
  pub statement : IsStatement (trimmed text) key rest
  pub later : List ℕ
  pub spelled : bytes ≡ encode_utf8_all (statement.indent ++ (statement.prefix ++ (key ++ later)))
  pub long : byte_len key ≤ end
  pub within : end ≤ length bytes
  pub front : take (end - byte_len key) bytes ≡ encode_utf8_all (statement.indent ++ statement.prefix)
  pub back : drop end bytes ≡ encode_utf8_all later

-- two fronts of a text, by the lengths of their bytes
module _ (front key later bytes : List ℕ) (end : ℕ) (spelled : bytes ≡ encode_utf8_all (front ++ (key ++ later)))
    (is : end ≡ byte_len (front ++ key)) where
  split_front : bytes ≡ encode_utf8_all front ++ encode_utf8_all (key ++ later)
  split_front = spelled ∙ encodes-append front (key ++ later)

  split_back : bytes ≡ encode_utf8_all (front ++ key) ++ encode_utf8_all later
  split_back =
      spelled ∙ ap encode_utf8_all (sym (append_assoc front key later)) ∙ encodes-append (front ++ key) later

  end_is : end ≡ byte_len front + byte_len key
  end_is =
      is ∙ ap length (encodes-append front key) ∙ length-append (encode_utf8_all front) (encode_utf8_all key)

  cut_long : byte_len key ≤ end
  cut_long = omega (arith, end_is)

  cut_within : end ≤ length bytes
  cut_within =
      let k = ap length split_back in
      omega (arith, k, is, length-append (encode_utf8_all (front ++ key)) (encode_utf8_all later))

  cut_front : take (end - byte_len key) bytes ≡ encode_utf8_all front
  cut_front =
      let k : end - byte_len key ≡ byte_len front = omega (arith, end_is) in
      rw (k, split_front) (take-append_seam (encode_utf8_all front) (encode_utf8_all (key ++ later)))

  cut_back : drop end bytes ≡ encode_utf8_all later
  cut_back = rw (is, split_back) (drop-append_seam (encode_utf8_all (front ++ key)) (encode_utf8_all later))

-- the line of a statement is cut at the end of its key
pub key_cut : (text key rest bytes : List ℕ) (end : ℕ) → HasLine bytes text → IsKeyEnd text key rest end →
    KeyCut text key rest bytes end
key_cut text key rest bytes end line (statement, is) =
    let (cut, kept) = line_bytes bytes text line in
    let (white, split) = trimmed_front text in
    let front = statement.indent ++ statement.prefix in
    let later = statement.before ++ equals_sign ∷ (statement.after ++ (rest ++ (white ++ cut))) in
    let own : end ≡ byte_len (front ++ key) =
    is ∙ ap byte_len (sym (append_assoc statement.indent statement.prefix key)) in
    let shape : ((statement.indent ++ (statement.prefix ++ (key ++ (statement.before ++ equals_sign ∷
    (statement.after ++ rest))))) ++ white) ++ cut ≡ front ++ (key ++ later) = simp append_assoc in
    let all : bytes ≡ encode_utf8_all (front ++ (key ++ later)) =
    kept ∙ ap (λ t. encode_utf8_all (t ++ cut)) (split ∙ ap (λ t. t ++ white) statement.spelled)
    ∙ ap encode_utf8_all shape in record {
      statement = statement;
      later = later;
      spelled = all ∙ ap encode_utf8_all (append_assoc statement.indent statement.prefix (key ++ later));
      long = cut_long front key later bytes end all own;
      within = cut_within front key later bytes end all own;
      front = cut_front front key later bytes end all own;
      back = cut_back front key later bytes end all own;
    }

-- the new key between the bytes before the old one and after it is the renamed line
pub renamed_line : (text key rest bytes : List ℕ) (end : ℕ) (new : List ℕ) → KeyCut text key rest bytes end →
    RenamesLine key new (record { bytes = bytes; logical = HasText text })
    (take (end - byte_len key) bytes ++ (encode_utf8_all new ++ drop end bytes))
renamed_line text key rest bytes end new cut = record {
  text = text;
  is_text = refl;
  assigned = rest;
  statement = cut.statement;
  later = cut.later;
  spelled = cut.spelled;
  line_is =
      rw (cut.front, cut.back)
      (ap (◌++◌ (encode_utf8_all (cut.statement.indent ++ cut.statement.prefix))) (sym (encodes-append new cut.later))
      ∙ sym (encodes-append (cut.statement.indent ++ cut.statement.prefix) (new ++ cut.later))
      ∙ ap encode_utf8_all (append_assoc cut.statement.indent cut.statement.prefix (new ++ cut.later)));
}

-- the line cut by the bytes of its key
pub record NamedCut (key text bytes named : List ℕ) (end : ℕ) : Type 0 where
  pub long : length named ≤ end
  pub within_front : end - length named ≤ length bytes
  pub within : end ≤ length bytes
  pub renamed :
      (new : List ℕ) → IsUtf8 new → RenamesLine key (chars new) (record { bytes = bytes; logical = HasText text })
      (take (end - length named) bytes ++ (new ++ drop end bytes))

pub named_cut : {text key rest bytes named : List ℕ} {end : ℕ} → HasLine bytes text → IsKeyEnd text key rest end →
    IsUtf8 named → chars named ≡ key → NamedCut key text bytes named end
named_cut {text} {key} {rest} {bytes} {named} {end} line is_end utf8 is =
    let cut = key_cut text key rest bytes end line is_end in
    let size : length named ≡ byte_len key = ap length (sym (encodes-chars named utf8)) ∙ ap byte_len is in record {
      long = rw size cut.long;
      within_front = omega (arith, cut.within);
      within = cut.within;
      renamed =
          λ new valid.
          subst (λ made. RenamesLine key (chars new) (record { bytes = bytes; logical = HasText text })
          (take (end - length named) bytes ++ (made ++ drop end bytes))) (encodes-chars new valid)
          (rw size (renamed_line text key rest bytes end (chars new) cut));
    }

-- three parts that are appended one after another
pub three_appended : {first second third : List ℕ} (old x y z a b c : List ℕ) → first ≡ old ++ x → second ≡ first ++ y →
    third ≡ second ++ z → x ≡ a → y ≡ b → z ≡ c → third ≡ old ++ (a ++ (b ++ c))
three_appended old x y z a b c is also last p q r =
    rw (last, also, is, p, q, r) (append_assoc (old ++ a) b c ∙ append_assoc old a (b ++ c))
