-- The words that are written are read as what they were written of.
use Rattle.std.proofs.Common.{ℕ, zero, suc, ◌≡◌, ◌<◌, ◌≤◌, nat_le, eqb, Bool, true, false, ◌&&◌, ◌||◌, cond, IsTrue, List, [], ◌∷◌, Option, Some, None, codes, refl, sym, ap, subst, ◌∙◌, arith}
use Rattle.std.specs.Str.{bytes_eq}
use Rattle.std.specs.Fmt.{decimal}
use Rattle.std.specs.Char.{digit_value}
use Rattle.std.specs.List.{list_all}
use Rattle.std.specs.Str.Parse.{AllDigits}
use Rattle.std.proofs.lemmas.Fmt.{decimal_is_IsNumeral}
use Rattle.std.proofs.lemmas.Str.Parse.{digit_from_value}
use Rattle.std.proofs.lemmas.Slice.Eq.{bytes_eq-Decides}
use Rattle.std.proofs.lemmas.Bool.Decides.{nat_tests}
use Rattle.act1_base.specs.Capped.{is_number}
use Rattle.act1_base.specs.Names.{is_name, is_name_byte}
use Rattle.act1_base.proofs.NumberWords.{spelled_number, spelled_capped}
use Rattle.act1_base.proofs.TextLines.{IsWithout}
use Rattle.act1_device.specs.declared.device.Track.{Track}
use Rattle.act1_device.specs.declared.device.Track.TheVariants as track
use Rattle.act1_device.specs.declared.device.Line.{Line}
use Rattle.act1_device.specs.declared.device.Line.TheVariants as line
use Rattle.act1_device.specs.declared.device.Site.{Site}
use Rattle.act1_device.specs.declared.device.Site.TheVariants.{Along, Cross}
use Rattle.act1_device.specs.Order.{track_number, site_numbers}
use Rattle.act1_fuses.specs.declared.form.FuseLine.{FuseLine}
use Rattle.act1_fuses.specs.declared.form.FuseLine.TheVariants as form
use Rattle.act1_fuses.proofs.Fields.{TrackFits, SiteFits}
use Rattle.act1_fuses.specs.Forms.{number, is_track, track_order, is_small, track_of, pin_number, crossing, along, is_fuse, is_init, or_line, form_of, pin_of}
use Rattle.act1_device.specs.Pins.{pin_name}
use Rattle.act1_fuses.specs.Text.{track_word, site_words}

and_of : (a b : Bool) → IsTrue a → IsTrue b → IsTrue (a && b)
and_of true b h k = k
and_of false b h k = cc

both : (a b : Bool) → IsTrue (a && b) → IsTrue a × IsTrue b
both true b h = (refl, h)
both false b h = cc

first : {X : Type 0} (b : Bool) (x o : X) → IsTrue b → cond b x o ≡ x
first true x o h = refl
first false x o h = cc

other : {X : Type 0} (b : Bool) (x o : X) → b ≡ false → cond b x o ≡ o
other true x o h = cc
other false x o h = refl

first_line : (b : Bool) (x : FuseLine) (o : Option FuseLine) → IsTrue b → or_line (cond b (Some x) None) o ≡ Some x
first_line true x o h = refl
first_line false x o h = cc

other_line : (b : Bool) (x : FuseLine) (o : Option FuseLine) → b ≡ false → or_line (cond b (Some x) None) o ≡ o
other_line true x o h = cc
other_line false x o h = refl

small : (n : ℕ) → n ≤ 255 → IsTrue (is_small n)
small n h = grind (arith, nat_tests)

wide : (n : ℕ) → n ≤ 65535 → IsTrue (nat_le n 65535)
wide n h = grind (arith, nat_tests)

pub number_of : (n : ℕ) → n ≤ 65535 → number (decimal n) ≡ n
number_of n h = spelled_capped 65536 n (omega arith) (omega arith)

pub is_number_of : (n : ℕ) → n ≤ 65535 → IsTrue (is_number (decimal n))
is_number_of n h = spelled_number n (omega arith)

-- no byte of a name or of a number is a blank or a line feed
byte_without : (b mark : ℕ) → mark ≤ 32 → IsTrue (is_name_byte b) → eqb b mark ≡ false
byte_without b mark low h = grind (arith, nat_tests)

pub bytes_without : (mark : ℕ) (name : List ℕ) → mark ≤ 32 → IsTrue (list_all is_name_byte name) → IsWithout mark name
bytes_without mark [] low h = tt
bytes_without mark (b ∷ name) low h = let p = both (is_name_byte b) (list_all is_name_byte name) h in (byte_without b mark low p.0, bytes_without mark name low p.1)

pub name_without : (mark : ℕ) (name : List ℕ) → mark ≤ 32 → IsTrue (is_name name) → IsWithout mark name
name_without mark name low h = bytes_without mark name low (both _ (list_all is_name_byte name) (both _ _ h).0).1

digit_without : (b mark : ℕ) → mark ≤ 32 → digit_value b < 10 → eqb b mark ≡ false
digit_without b mark low h = let r = digit_from_value b h in grind (arith, nat_tests, r)

digits_without : (mark : ℕ) (word : List ℕ) → mark ≤ 32 → AllDigits 10 word → IsWithout mark word
digits_without mark [] low h = tt
digits_without mark (b ∷ word) low h = (digit_without b mark low h.0, digits_without mark word low h.1)

pub decimal_without : (mark n : ℕ) → mark ≤ 32 → n ≤ 65535 → IsWithout mark (decimal n)
decimal_without mark n low h = digits_without mark (decimal n) low (decimal_is_IsNumeral n (omega arith)).0.1

-- a number is no name of a track
not_both : (b : Bool) → b ≡ true → b ≡ false → ⊥
not_both b h k = cc

not_word : (n : ℕ) (word : List ℕ) (test : Bool) → n ≤ 65535 → is_number word ≡ false → bytes_eq (decimal n) word ≡ test → test ≡ false
not_word n word false h none e = refl
not_word n word true h none e = absurd (not_both (is_number word) (subst (λ (w : List ℕ). IsTrue (is_number w)) ((bytes_eq-Decides (decimal n) word).0 e) (is_number_of n h)) none)

is_no : (n : ℕ) (word : List ℕ) → n ≤ 65535 → is_number word ≡ false → bytes_eq (decimal n) word ≡ false
is_no n word h none = not_word n word (bytes_eq (decimal n) word) h none refl

or_last : (a b : Bool) → IsTrue b → IsTrue (a || b)
or_last true b h = refl
or_last false b h = h

pub is_track_of : (t : Track) → TrackFits t → IsTrue (is_track (track_word t))
is_track_of (track.Signal n) h = or_last _ (is_number (decimal n)) (is_number_of n (omega arith))
is_track_of track.Gnd h = refl
is_track_of track.Vcc h = refl
is_track_of track.Clk h = refl

pub order_of : (t : Track) → TrackFits t → track_order (track_word t) ≡ track_number t
order_of (track.Signal n) h =
    other _ 64 _ (is_no n (codes "gnd") (omega arith) refl) ∙ other _ 65 _ (is_no n (codes "vcc") (omega arith) refl) ∙ other _ 66 _ (is_no n (codes "clk") (omega arith) refl) ∙ number_of n (omega arith)
order_of track.Gnd h = refl
order_of track.Vcc h = refl
order_of track.Clk h = refl

pub track_found : (t : Track) → TrackFits t → track_of (track_word t) ≡ Some t
track_found (track.Signal n) h =
    other _ (Some track.Gnd) _ (is_no n (codes "gnd") (omega arith) refl) ∙ other _ (Some track.Vcc) _ (is_no n (codes "vcc") (omega arith) refl) ∙ other _ (Some track.Clk) _ (is_no n (codes "clk") (omega arith) refl)
    ∙ ap (λ (m : ℕ). cond (is_small m) (Some (track.Signal m)) None) (number_of n (omega arith)) ∙ first (is_small n) (Some (track.Signal n)) None (small n h)
track_found track.Gnd h = refl
track_found track.Vcc h = refl
track_found track.Clk h = refl

pub fuse_starts : (c : ℕ) (t : Track) → c ≤ 255 → TrackFits t → IsTrue (is_fuse (codes "fuse") (decimal c) (track_word t))
fuse_starts c t h k = and_of (is_number (decimal c)) (is_track (track_word t)) (is_number_of c (omega arith)) (is_track_of t k)

-- what a crossing gives
abbrev crossed : ℕ → ℕ → List ℕ → Option Track → Option Line → Option FuseLine
crossed c order numbers t l = Some (form.Fuse (c ∷ order ∷ numbers) (crossing c t l))

crossed_is : (c m : ℕ) (t : Track) (numbers ns : List ℕ) (l : Option Line) (v : Line) → m ≡ c → c ≤ 255 → TrackFits t → numbers ≡ ns → l ≡ Some v
    → crossed m (track_order (track_word t)) numbers (track_of (track_word t)) l ≡ Some (form.Fuse (c ∷ track_number t ∷ ns) (Some (Cross c t v)))
crossed_is c m t numbers ns l v e h k en el =
    ap (λ (x : ℕ). crossed x (track_order (track_word t)) numbers (track_of (track_word t)) l) e
    ∙ ap (λ (x : ℕ). crossed c x numbers (track_of (track_word t)) l) (order_of t k)
    ∙ ap (λ (x : List ℕ). crossed c (track_number t) x (track_of (track_word t)) l) en
    ∙ ap (λ (x : Option Track). crossed c (track_number t) ns x l) (track_found t k)
    ∙ ap (λ (x : Option Line). crossed c (track_number t) ns (Some t) x) el
    ∙ ap (λ (x : Option Site). Some (form.Fuse (c ∷ track_number t ∷ ns) x)) (first (is_small c) (Some (Cross c t v)) None (small c h))

two_found : (a b x y : ℕ) (make : ℕ → ℕ → Line) → x ≡ a → y ≡ b → a ≤ 255 → b ≤ 255 → cond (is_small x && is_small y) (Some (make x y)) None ≡ Some (make a b)
two_found a b x y make ex ey ha hb =
    ap (λ (z : ℕ). cond (is_small z && is_small y) (Some (make z y)) None) ex ∙ ap (λ (z : ℕ). cond (is_small a && is_small z) (Some (make a z)) None) ey
    ∙ first (is_small a && is_small b) (Some (make a b)) None (and_of (is_small a) (is_small b) (small a ha) (small b hb))

two_numbers : (form_number a b x y : ℕ) (more : List ℕ) → x ≡ a → y ≡ b → form_number ∷ x ∷ y ∷ more ≡ form_number ∷ a ∷ b ∷ more
two_numbers f a b x y more ex ey = ap (λ (z : ℕ). f ∷ z ∷ y ∷ more) ex ∙ ap (λ (z : ℕ). f ∷ a ∷ z ∷ more) ey

pin_found : (pin : ℕ) → pin < 8 → pin_number (pin_name pin) ≡ Some pin
pin_found zero h = refl
pin_found (suc zero) h = refl
pin_found (suc (suc zero)) h = refl
pin_found (suc (suc (suc zero))) h = refl
pin_found (suc (suc (suc (suc zero)))) h = refl
pin_found (suc (suc (suc (suc (suc zero))))) h = refl
pin_found (suc (suc (suc (suc (suc (suc zero)))))) h = refl
pin_found (suc (suc (suc (suc (suc (suc (suc zero))))))) h = refl
pin_found (suc (suc (suc (suc (suc (suc (suc (suc n)))))))) h = absurd (omega arith)

third_of_three : (a b : Bool) → (a && false && b) ≡ false
third_of_three true b = refl
third_of_three false b = refl

third_of_four : (a b c : Bool) → (a && false && b && c) ≡ false
third_of_four true b c = refl
third_of_four false b c = refl

with_word : (a b : Bool) → IsTrue a → IsTrue b → IsTrue (a && true && b)
with_word true b h k = k
with_word false b h k = cc

with_words : (a b c : Bool) → IsTrue a → IsTrue b → IsTrue c → IsTrue (a && true && b && c)
with_words true true c h k m = m
with_words true false c h k m = cc
with_words false b c h k m = cc

-- the words of a site are read as that site
pub site_form : (site : Site) → SiteFits site → form_of (site_words site) ≡ Some (form.Fuse (site_numbers site) (Some site))
site_form (Along c t i) h =
    first_line (is_fuse (codes "fuse") (decimal c) (decimal t) && true && is_number (decimal i)) _ _ (with_word _ (is_number (decimal i)) (fuse_starts c (track.Signal t) h.0 h.1) (is_number_of i (omega (arith, h.2))))
    ∙ ap (λ (x : ℕ). Some (form.Fuse (x ∷ track_order (decimal t) ∷ 0 ∷ number (decimal i) ∷ []) (along x (track_of (decimal t)) (number (decimal i))))) (number_of c (omega (arith, h.0)))
    ∙ ap (λ (x : ℕ). Some (form.Fuse (c ∷ track_order (decimal t) ∷ 0 ∷ x ∷ []) (along c (track_of (decimal t)) x))) (number_of i (omega (arith, h.2)))
    ∙ ap (λ (x : ℕ). Some (form.Fuse (c ∷ x ∷ 0 ∷ i ∷ []) (along c (track_of (decimal t)) i))) (order_of (track.Signal t) h.1)
    ∙ ap (λ (x : Option Track). Some (form.Fuse (c ∷ t ∷ 0 ∷ i ∷ []) (along c x i))) (track_found (track.Signal t) h.1)
    ∙ ap (λ (x : Option Site). Some (form.Fuse (c ∷ t ∷ 0 ∷ i ∷ []) x)) (first (is_small c && is_small i) (Some (Along c t i)) None (and_of (is_small c) (is_small i) (small c h.0) (small i h.2)))
site_form (Cross c t (line.Pin r k pin)) h =
    let er = number_of r (omega (arith, h.2.0)) in
    let ek = number_of k (omega (arith, h.2.1)) in
    ap (λ (x : Option ℕ). pin_of (codes "fuse") (decimal c) (track_word t) (codes "pin") (decimal r) (decimal k) x) (pin_found pin h.2.2)
    ∙ first (is_fuse (codes "fuse") (decimal c) (track_word t) && true && is_number (decimal r) && is_number (decimal k)) _ _
    (with_words _ (is_number (decimal r)) (is_number (decimal k)) (fuse_starts c t h.0 h.1) (is_number_of r (omega (arith, h.2.0))) (is_number_of k (omega (arith, h.2.1))))
    ∙ crossed_is c (number (decimal c)) t _ _ _ (line.Pin r k pin) (number_of c (omega (arith, h.0))) h.0 h.1 (two_numbers 1 r k (number (decimal r)) (number (decimal k)) (pin ∷ []) er ek)
    (two_found r k (number (decimal r)) (number (decimal k)) (λ x y. line.Pin x y pin) er ek h.2.0 h.2.1)
site_form (Cross c t (line.Out r k)) h =
    let er = number_of r (omega (arith, h.2.0)) in
    let ek = number_of k (omega (arith, h.2.1)) in
    first_line (is_fuse (codes "fuse") (decimal c) (track_word t) && true && is_number (decimal r) && is_number (decimal k)) _ _
    (with_words _ (is_number (decimal r)) (is_number (decimal k)) (fuse_starts c t h.0 h.1) (is_number_of r (omega (arith, h.2.0))) (is_number_of k (omega (arith, h.2.1))))
    ∙ crossed_is c (number (decimal c)) t _ _ _ (line.Out r k) (number_of c (omega (arith, h.0))) h.0 h.1 (two_numbers 2 r k (number (decimal r)) (number (decimal k)) [] er ek)
    (two_found r k (number (decimal r)) (number (decimal k)) (λ x y. line.Out x y) er ek h.2.0 h.2.1)
site_form (Cross c t (line.Long k i)) h =
    let ek = number_of k (omega (arith, h.2.0)) in
    let ei = number_of i (omega (arith, h.2.1)) in
    other_line (is_fuse (codes "fuse") (decimal c) (track_word t) && false && is_number (decimal k) && is_number (decimal i)) _ _ (third_of_four (is_fuse (codes "fuse") (decimal c) (track_word t)) (is_number (decimal k)) (is_number (decimal i)))
    ∙ first (is_fuse (codes "fuse") (decimal c) (track_word t) && true && is_number (decimal k) && is_number (decimal i)) _ _
    (with_words _ (is_number (decimal k)) (is_number (decimal i)) (fuse_starts c t h.0 h.1) (is_number_of k (omega (arith, h.2.0))) (is_number_of i (omega (arith, h.2.1))))
    ∙ crossed_is c (number (decimal c)) t _ _ _ (line.Long k i) (number_of c (omega (arith, h.0))) h.0 h.1 (two_numbers 3 k i (number (decimal k)) (number (decimal i)) [] ek ei)
    (two_found k i (number (decimal k)) (number (decimal i)) (λ x y. line.Long x y) ek ei h.2.0 h.2.1)
site_form (Cross c t (line.Pad pad)) h =
    let ep = number_of pad h.2 in
    other_line (is_fuse (codes "fuse") (decimal c) (track_word t) && false && is_number (decimal pad)) _ _ (third_of_three (is_fuse (codes "fuse") (decimal c) (track_word t)) (is_number (decimal pad)))
    ∙ first (is_fuse (codes "fuse") (decimal c) (track_word t) && true && is_number (decimal pad)) _ _
    (with_word _ (is_number (decimal pad)) (fuse_starts c t h.0 h.1) (is_number_of pad h.2))
    ∙ crossed_is c (number (decimal c)) t _ _ _ (line.Pad pad) (number_of c (omega (arith, h.0))) h.0 h.1 (ap (λ (z : ℕ). 4 ∷ z ∷ []) ep)
    (ap (λ (z : ℕ). cond (nat_le z 65535) (Some (line.Pad z)) None) ep ∙ first (nat_le pad 65535) (Some (line.Pad pad)) None (wide pad h.2))

-- a port, a start and a name are read again
pub in_form : (pad : ℕ) (name : List ℕ) → pad ≤ 65535 → IsTrue (is_name name) → form_of (codes "in" ∷ decimal pad ∷ name ∷ []) ≡ Some (form.In pad name)
in_form pad name low fine =
    first_line (is_number (decimal pad) && is_name name) _ _ (and_of (is_number (decimal pad)) (is_name name) (is_number_of pad low) fine) ∙ ap (λ (n : ℕ). Some (form.In n name)) (number_of pad low)

pub out_form : (pad : ℕ) (name : List ℕ) → pad ≤ 65535 → IsTrue (is_name name) → form_of (codes "out" ∷ decimal pad ∷ name ∷ []) ≡ Some (form.Out pad name)
out_form pad name low fine =
    first (is_number (decimal pad) && is_name name) _ _ (and_of (is_number (decimal pad)) (is_name name) (is_number_of pad low) fine) ∙ ap (λ (n : ℕ). Some (form.Out n name)) (number_of pad low)

few : (n : ℕ) → n ≤ 3 → IsTrue (nat_le n 3)
few n h = grind (arith, nat_tests)

init_of : (n : ℕ) → n ≤ 3 → IsTrue (is_init (decimal n))
init_of n h = and_of (is_number (decimal n)) (nat_le (number (decimal n)) 3) (is_number_of n (omega arith)) (subst (λ (m : ℕ). IsTrue (nat_le m 3)) (sym (number_of n (omega arith))) (few n h))

pub start_form : (row column init : ℕ) (name : List ℕ) → row ≤ 65535 → column ≤ 65535 → init ≤ 3 → IsTrue (is_name name)
    → form_of (codes "start" ∷ decimal row ∷ decimal column ∷ decimal init ∷ name ∷ []) ≡ Some (form.Start row column init name)
start_form row column init name r c i fine =
    first_line (is_number (decimal row) && is_number (decimal column) && is_init (decimal init) && is_name name) _ _
    (and_of _ (is_name name) (and_of _ (is_init (decimal init)) (and_of (is_number (decimal row)) (is_number (decimal column)) (is_number_of row r) (is_number_of column c)) (init_of init i)) fine)
    ∙ ap (λ (n : ℕ). Some (form.Start n (number (decimal column)) (number (decimal init)) name)) (number_of row r)
    ∙ ap (λ (n : ℕ). Some (form.Start row n (number (decimal init)) name)) (number_of column c)
    ∙ ap (λ (n : ℕ). Some (form.Start row column n name)) (number_of init (omega arith))

pub device_form : (name : List ℕ) → IsTrue (is_name name) → form_of (codes "device" ∷ name ∷ []) ≡ Some (form.Device name)
device_form name fine = first_line (is_name name) _ _ fine

pub clock_form : (name : List ℕ) → IsTrue (is_name name) → form_of (codes "clock" ∷ name ∷ []) ≡ Some (form.Clock name)
clock_form name fine = first (is_name name) _ _ fine
