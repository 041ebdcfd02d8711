-- No word of a file's lines has a blank or a line feed.
use Rattle.std.proofs.Common.{ℕ, zero, suc, ◌<◌, ◌≤◌, IsTrue, List, [], ◌∷◌, ◌++◌, map, codes, refl, arith}
use Rattle.std.specs.Fmt.{decimal}
use Rattle.std.specs.List.{list_all, AllByRecursion}
use Rattle.act1_base.specs.Names.{is_name, is_name_byte}
use Rattle.act1_base.proofs.TextLines.{IsWithout}
use Rattle.act1_device.specs.declared.device.Track.{Track}
use Rattle.act1_device.specs.declared.device.Track.TheVariants as track
use Rattle.act1_device.specs.declared.device.Line.{Line}
use Rattle.act1_device.specs.declared.device.Line.TheVariants as line
use Rattle.act1_device.specs.declared.device.Site.{Site}
use Rattle.act1_device.specs.declared.device.Site.TheVariants.{Along, Cross}
use Rattle.act1_fuses.proofs.Fields.{TrackFits, LineFits, SiteFits}
use Rattle.act1_device.specs.Pins.{pin_name}
use Rattle.act1_fuses.specs.Text.{track_word, line_words, site_words}
use Rattle.act1_fuses.proofs.Written.{bytes_without, name_without, decimal_without}

module _ (mark : ℕ) (low : mark ≤ 32) where
  abbrev pub AreWithout : List (List ℕ) → Type 0
  AreWithout words = AllByRecursion (IsWithout mark) words

  pub code : (word : List ℕ) → IsTrue (list_all is_name_byte word) → IsWithout mark word
  code word h = bytes_without mark word low h

  dec : (n : ℕ) → n ≤ 65535 → IsWithout mark (decimal n)
  dec n h = decimal_without mark n low h

  pub named_without : (word name : List ℕ) → IsTrue (list_all is_name_byte word) → IsTrue (is_name name) → AreWithout (word ∷ name ∷ [])
  named_without word name h fine = (code word h, (name_without mark name low fine, tt))

  pub port_without : (word : List ℕ) (pad : ℕ) (name : List ℕ) → IsTrue (list_all is_name_byte word) → pad ≤ 65535 → IsTrue (is_name name) → AreWithout (word ∷ decimal pad ∷ name ∷ [])
  port_without word pad name h few fine = (code word h, (dec pad few, (name_without mark name low fine, tt)))

  pub start_without : (row column init : ℕ) (name : List ℕ) → row ≤ 65535 → column ≤ 65535 → init ≤ 65535 → IsTrue (is_name name) → AreWithout (codes "start" ∷ decimal row ∷ decimal column ∷ decimal init ∷ name ∷ [])
  start_without row column init name r c i fine = (code (codes "start") refl, (dec row r, (dec column c, (dec init i, (name_without mark name low fine, tt)))))

  track_without : (t : Track) → TrackFits t → IsWithout mark (track_word t)
  track_without (track.Signal n) h = dec n (omega arith)
  track_without track.Gnd h = code (codes "gnd") refl
  track_without track.Vcc h = code (codes "vcc") refl
  track_without track.Clk h = code (codes "clk") refl

  pin_without : (pin : ℕ) → pin < 8 → IsWithout mark (pin_name pin)
  pin_without zero h = code (codes "A0") refl
  pin_without (suc zero) h = code (codes "A1") refl
  pin_without (suc (suc zero)) h = code (codes "SA") refl
  pin_without (suc (suc (suc zero))) h = code (codes "B0") refl
  pin_without (suc (suc (suc (suc zero)))) h = code (codes "B1") refl
  pin_without (suc (suc (suc (suc (suc zero))))) h = code (codes "SB") refl
  pin_without (suc (suc (suc (suc (suc (suc zero)))))) h = code (codes "S0") refl
  pin_without (suc (suc (suc (suc (suc (suc (suc zero))))))) h = code (codes "S1") refl
  pin_without (suc (suc (suc (suc (suc (suc (suc (suc n)))))))) h = absurd (omega arith)

  line_without : (l : Line) → LineFits l → AreWithout (line_words l)
  line_without (line.Pin row column pin) h = (code (codes "pin") refl, (dec row (omega (arith, h.0)), (dec column (omega (arith, h.1)), (pin_without pin h.2, tt))))
  line_without (line.Out row column) h = (code (codes "out") refl, (dec row (omega (arith, h.0)), (dec column (omega (arith, h.1)), tt)))
  line_without (line.Long column index) h = (code (codes "long") refl, (dec column (omega (arith, h.0)), (dec index (omega (arith, h.1)), tt)))
  line_without (line.Pad pad) h = (code (codes "pad") refl, (dec pad h, tt))

  pub site_without : (site : Site) → SiteFits site → AreWithout (site_words site)
  site_without (Along c t i) h = (code (codes "fuse") refl, (dec c (omega (arith, h.0)), (dec t (omega (arith, h.1)), (code (codes "along") refl, (dec i (omega (arith, h.2)), tt)))))
  site_without (Cross c t l) h = (code (codes "fuse") refl, (dec c (omega (arith, h.0)), (track_without t h.1, line_without l h.2)))

  pub append_without : (a b : List (List (List ℕ))) → AllByRecursion AreWithout a → AllByRecursion AreWithout b → AllByRecursion AreWithout (a ++ b)
  append_without [] b h k = k
  append_without (x ∷ a) b h k = (h.0, append_without a b h.1 k)

  pub map_without : {X : Type 0} (words : X → List (List ℕ)) (P : X → Type 0) → ((x : X) → P x → AreWithout (words x)) → (xs : List X) → AllByRecursion P xs → AllByRecursion AreWithout (map words xs)
  map_without words P each [] h = tt
  map_without words P each (x ∷ xs) h = (each x h.0, map_without words P each xs h.1)
