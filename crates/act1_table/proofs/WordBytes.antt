-- The words of a table have no space and no line feed.
use Rattle.std.proofs.Common.{ℕ, suc, zero, ◌≡◌, ◌≤◌, nat_le, eqb, Bool, false, IsTrue, List, [], ◌∷◌, arith}
use Rattle.std.specs.Fmt.{decimal}
use Rattle.std.specs.List.{list_all}
use Rattle.std.proofs.lemmas.Bool.Decides.{nat_tests}
use Rattle.act1_base.specs.Capped.{is_digit}
use Rattle.act1_base.specs.Names.{is_name, is_name_byte}
use Rattle.act1_base.proofs.TextLines.{IsWithout, without_append}
use Rattle.act1_table.specs.Table.{Part}
use Rattle.act1_table.specs.Table.{Text, Number}
use Rattle.act1_table.specs.Table.{Field}
use Rattle.act1_table.specs.Table as field
use Rattle.act1_table.specs.declared.forms.Given.{Given}
use Rattle.act1_table.specs.declared.forms.Given.TheVariants as given
use Rattle.act1_table.specs.Forms.{FitParts, spell_parts, FitWay, spell_way, Fits, spell}
use Rattle.act1_table.specs.Clear.{is_inner, are_clear_parts, are_clear_ways, is_clear_field}
use Rattle.act1_table.proofs.NumberLaws.{both, small}
use Rattle.act1_table.proofs.PartLaws.{clear_number, clear_text, decimal_digits}
use Rattle.act1_table.proofs.WordLaws.{clear_ways}

-- the bytes of a word are above the space, and so above the line feed
module _ (mark : ℕ) (low : mark ≤ 32) where
  above : (b : ℕ) → IsTrue (nat_le 33 b) → eqb b mark ≡ false
  above b h = grind (arith, nat_tests)

  digit_above : (b : ℕ) → IsTrue (is_digit b) → eqb b mark ≡ false
  digit_above b h = grind (arith, nat_tests)

  name_above : (b : ℕ) → IsTrue (is_name_byte b) → eqb b mark ≡ false
  name_above b h = grind (arith, nat_tests)

  all_above : (test : ℕ → Bool) → ((b : ℕ) → IsTrue (test b) → eqb b mark ≡ false) → (bytes : List ℕ) → IsTrue (list_all test bytes) → IsWithout mark bytes
  all_above test each [] h = tt
  all_above test each (b ∷ bytes) h = let p = both (test b) (list_all test bytes) h in (each b p.0, all_above test each bytes p.1)

  parts_without : (parts : List Part) (ns : List ℕ) → IsTrue (are_clear_parts parts) → FitParts parts ns → IsWithout mark (spell_parts parts ns)
  parts_without [] ns c fit = tt
  parts_without (Text text ∷ parts) ns c fit =
      without_append mark text (spell_parts parts ns) (all_above is_inner above text (both (list_all is_inner text) (are_clear_parts parts) c).0) (parts_without parts ns (clear_text text parts c) fit)
  parts_without (Number l ∷ parts) [] c fit = tt
  parts_without (Number l ∷ parts) (n ∷ ns) c fit =
      let clear = clear_number l parts c in
      without_append mark (decimal n) (spell_parts parts ns) (all_above is_digit digit_above (decimal n) (decimal_digits n (small l n clear.limit fit.0))) (parts_without parts ns clear.rest fit.1)

  way_without : (ways : List (List Part)) (k : ℕ) (ns : List ℕ) → IsTrue (are_clear_ways ways) → FitWay ways k ns → IsWithout mark (spell_way ways k ns)
  way_without [] k ns c fit = tt
  way_without (way ∷ ways) zero ns c fit = parts_without way ns (clear_ways way ways c).first fit
  way_without (way ∷ ways) (suc k) ns c fit = way_without ways k ns (clear_ways way ways c).rest fit

  name_bytes : (name : List ℕ) → IsTrue (is_name name) → IsTrue (list_all is_name_byte name)
  name_bytes name h = (both _ (list_all is_name_byte name) (both _ _ h).0).1

  pub spelled_without : (f : Field) (g : Given) → IsTrue (is_clear_field f) → Fits f g → IsWithout mark (spell f g)
  spelled_without field.Name (given.Name name) c fit = all_above is_name_byte name_above name (name_bytes name fit)
  spelled_without field.Name (given.Way k ns) c fit = tt
  spelled_without (field.OneOf ways) (given.Name name) c fit = absurd fit
  spelled_without (field.OneOf ways) (given.Way k ns) c fit = way_without ways k ns c fit
