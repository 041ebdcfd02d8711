-- The words of a line are those of what it says.
use Rattle.std.proofs.Common.{ℕ, suc, ◌≡◌, ◌+◌, ◌-◌, ◌≤◌, nat_le, Bool, true, false, ◌&&◌, ◌||◌, cond, IsTrue, List, [], ◌∷◌, get_or, Option, Some, None, codes, refl, sym, ap, subst, ◌∙◌, ◌⊎◌, inl, inr, arith}
use Rattle.std.specs.Str.{bytes_eq}
use Rattle.std.specs.Fmt.{decimal}
use Rattle.std.proofs.lemmas.Slice.Eq.{bytes_eq-Decides}
use Rattle.std.proofs.lemmas.Bool.Decides.{nat_tests}
use Rattle.act1_base.specs.Capped.{is_number}
use Rattle.act1_base.specs.Names.{is_name}
use Rattle.act1_base.proofs.NumberWords.{number_spelled}
use Rattle.act1_device.specs.declared.device.Track.{Track}
use Rattle.act1_device.specs.declared.device.Track.TheVariants as track
use Rattle.act1_device.specs.declared.device.Line.{Line}
use Rattle.act1_device.specs.declared.device.Line.TheVariants as line
use Rattle.act1_device.specs.Order.{track_number, line_numbers, site_numbers}
use Rattle.act1_fuses.specs.declared.form.FuseLine.{FuseLine}
use Rattle.act1_fuses.specs.declared.form.FuseLine.TheVariants as form
use Rattle.act1_fuses.specs.Forms.{number, is_track, track_order, is_small, track_of, place_among, pin_number, pin_at, out_at, long_at, pad_at, crossing, along, along_fuse, pin_fuse, out_fuse, long_fuse, pad_fuse, is_fuse, is_init, or_line, end_of, device_of, clock_of, form_of_two, header_of, input_of, output_of, port_of, form_of_three, start_of, along_of, pad_of, short_fuse_of, form_of_five, out_of, long_of, form_of_six, pin_of, form_of}
use Rattle.act1_device.specs.Pins.{pin_names, pin_name}
use Rattle.act1_fuses.specs.Text.{track_word, line_words, site_words}

-- the words of what a line says, where its numbers fit
abbrev pub words_said : FuseLine → List (List ℕ)
words_said form.Header = codes "act1" ∷ codes "fuses" ∷ codes "1" ∷ []
words_said (form.Device name) = codes "device" ∷ name ∷ []
words_said (form.Clock name) = codes "clock" ∷ name ∷ []
words_said (form.In pad name) = codes "in" ∷ decimal pad ∷ name ∷ []
words_said (form.Out pad name) = codes "out" ∷ decimal pad ∷ name ∷ []
words_said (form.Start row column init name) = codes "start" ∷ decimal row ∷ decimal column ∷ decimal init ∷ name ∷ []
words_said (form.Fuse numbers None) = []
words_said (form.Fuse numbers (Some site)) = site_words site
words_said form.End = codes "end" ∷ []

-- what a line of a form keeps
abbrev pub IsFine : FuseLine → Type 0
IsFine form.Header = Unit {0}
IsFine (form.Device name) = IsTrue (is_name name)
IsFine (form.Clock name) = IsTrue (is_name name)
IsFine (form.In pad name) = IsTrue (is_name name)
IsFine (form.Out pad name) = IsTrue (is_name name)
IsFine (form.Start row column init name) = (init ≤ 3) × IsTrue (is_name name)
IsFine (form.Fuse numbers None) = Unit {0}
IsFine (form.Fuse numbers (Some site)) = numbers ≡ site_numbers site
IsFine form.End = Unit {0}

-- its numbers fit
abbrev pub Fits : FuseLine → Type 0
Fits form.Header = Unit {0}
Fits (form.Device name) = Unit {0}
Fits (form.Clock name) = Unit {0}
Fits (form.In pad name) = pad ≤ 65535
Fits (form.Out pad name) = pad ≤ 65535
Fits (form.Start row column init name) = (row ≤ 65535) × (column ≤ 65535)
Fits (form.Fuse numbers None) = ⊥
Fits (form.Fuse numbers (Some site)) = Unit {0}
Fits form.End = Unit {0}

-- these are the words of the line
abbrev pub Reads : List (List ℕ) → FuseLine → Type 0
Reads words l = IsFine l × (Fits l → words ≡ words_said l)

both : (a b : Bool) → IsTrue (a && b) → IsTrue a × IsTrue b
both true b h = (refl, h)
both false b h = cc

chosen : {X : Type 0} (b : Bool) (x : X) (o : Option X) (y : X) → cond b (Some x) o ≡ Some y → (IsTrue b × (x ≡ y)) ⊎ (o ≡ Some y)
chosen true x o y e = inl (refl, cc)
chosen false x o y e = inr e

-- where a choice of lines is made, each line that may be chosen has the words
one_of : (words : List (List ℕ)) (b : Bool) (x : FuseLine) (o : Option FuseLine) (y : FuseLine) → (IsTrue b → Reads words x) → (o ≡ Some y → Reads words y) → cond b (Some x) o ≡ Some y → Reads words y
one_of words b x o y first rest e = by (chosen b x o y e)
  where
    by : (IsTrue b × (x ≡ y)) ⊎ (o ≡ Some y) → Reads words y
    by (inl h) = subst (λ (l : FuseLine). Reads words l) h.1 (first h.0)
    by (inr h) = rest h

no_more : (words : List (List ℕ)) (y : FuseLine) → None ≡ Some y → Reads words y
no_more words y e = cc

-- the first of two lines
or_said : (words : List (List ℕ)) (one other : Option FuseLine) (l : FuseLine) → (one ≡ Some l → Reads words l) → (other ≡ Some l → Reads words l) → or_line one other ≡ Some l → Reads words l
or_said words (Some x) other l first rest e = first e
or_said words None other l first rest e = rest e

same_word : (a b : List ℕ) → IsTrue (bytes_eq a b) → a ≡ b
same_word a b h = (bytes_eq-Decides a b).0 h

spelled : (word : List ℕ) → IsTrue (is_number word) → number word ≤ 65535 → word ≡ decimal (number word)
spelled word h low = number_spelled 65536 word (omega arith) h (omega arith)

small_is : (n : ℕ) → IsTrue (is_small n) → n ≤ 255
small_is n h = grind (arith, nat_tests)

wide_is : (n : ℕ) → IsTrue (nat_le n 65535) → n ≤ 65535
wide_is n h = grind (arith, nat_tests)

small_word : (word : List ℕ) → IsTrue (is_number word) → IsTrue (is_small (number word)) → word ≡ decimal (number word)
small_word word h s = let low = small_is (number word) s in spelled word h (omega arith)

-- the words and the number of a track
abbrev IsTrackOf : List ℕ → Track → Type 0
IsTrackOf word t = (word ≡ track_word t) × (track_order word ≡ track_number t)

of_none : (t : Track) → None ≡ Some t → ⊥
of_none t e = cc

track_is : (word : List ℕ) (t : Track) (gnd vcc clk small : Bool) → bytes_eq word (codes "gnd") ≡ gnd → bytes_eq word (codes "vcc") ≡ vcc → bytes_eq word (codes "clk") ≡ clk → is_small (number word) ≡ small
    → IsTrue (gnd || vcc || clk || is_number word)
    → cond gnd (Some track.Gnd) (cond vcc (Some track.Vcc) (cond clk (Some track.Clk) (cond small (Some (track.Signal (number word))) None))) ≡ Some t
    → (word ≡ track_word t) × (cond gnd 64 (cond vcc 65 (cond clk 66 (number word))) ≡ track_number t)
track_is word t true vcc clk small e0 e1 e2 e3 is h =
    let same : track.Gnd ≡ t = cc in
    subst (λ (u : Track). (word ≡ track_word u) × (64 ≡ track_number u)) same (same_word word (codes "gnd") e0, refl)
track_is word t false true clk small e0 e1 e2 e3 is h =
    let same : track.Vcc ≡ t = cc in
    subst (λ (u : Track). (word ≡ track_word u) × (65 ≡ track_number u)) same (same_word word (codes "vcc") e1, refl)
track_is word t false false true small e0 e1 e2 e3 is h =
    let same : track.Clk ≡ t = cc in
    subst (λ (u : Track). (word ≡ track_word u) × (66 ≡ track_number u)) same (same_word word (codes "clk") e2, refl)
track_is word t false false false true e0 e1 e2 e3 is h =
    let same : track.Signal (number word) ≡ t = cc in
    subst (λ (u : Track). (word ≡ track_word u) × (number word ≡ track_number u)) same (small_word word is e3, refl)
track_is word t false false false false e0 e1 e2 e3 is h = absurd (of_none t h)

track_said : (word : List ℕ) (t : Track) → IsTrue (is_track word) → track_of word ≡ Some t → IsTrackOf word t
track_said word t is h = track_is word t _ _ _ _ refl refl refl refl is h

place_is : (word : List ℕ) (n k : ℕ) (names : List (List ℕ)) → place_among word n names ≡ Some k → (n ≤ k) × (word ≡ get_or names (k - n) [])
place_is word n k [] e = cc
place_is word n k (name ∷ names) e = by (chosen (bytes_eq word name) n (place_among word (n + 1) names) k e) (λ h. place_is word (n + 1) k names h)
  where
    by : (IsTrue (bytes_eq word name) × (n ≡ k)) ⊎ (place_among word (n + 1) names ≡ Some k) → (place_among word (n + 1) names ≡ Some k → (n + 1 ≤ k) × (word ≡ get_or names (k - (n + 1)) [])) → (n ≤ k) × (word ≡ get_or (name ∷ names) (k - n) [])
    by (inl h) rest = let zero_at : k - n ≡ 0 = omega (arith, h.1) in (omega (arith, h.1), same_word word name h.0 ∙ sym (ap (λ (i : ℕ). get_or (name ∷ names) i []) zero_at))
    by (inr h) rest =
        let r = rest h in let low = r.0 in
        let next : k - n ≡ suc (k - (n + 1)) = omega (arith, low) in
        (omega (arith, low), r.1 ∙ sym (ap (λ (i : ℕ). get_or (name ∷ names) i []) next))

pin_said : (word : List ℕ) (pin : ℕ) → pin_number word ≡ Some pin → word ≡ pin_name pin
pin_said word pin e = let whole : pin - 0 ≡ pin = omega arith in (place_is word 0 pin pin_names e).1 ∙ ap (λ (i : ℕ). get_or pin_names i []) whole

-- a line that crosses the track, by its words and its numbers
abbrev IsLineOf : List (List ℕ) → List ℕ → Option Line → Type 0
IsLineOf words numbers None = Unit {0}
IsLineOf words numbers (Some l) = (words ≡ line_words l) × (numbers ≡ line_numbers l)

crossing_said : (c t : List ℕ) (words : List (List ℕ)) (numbers : List ℕ) (tr : Option Track) (l : Option Line) (small : Bool) → IsTrue (is_number c) → IsTrue (is_track t) → is_small (number c) ≡ small → track_of t ≡ tr → IsLineOf words numbers l
    → Reads (codes "fuse" ∷ c ∷ t ∷ words) (form.Fuse (number c ∷ track_order t ∷ numbers) (crossing (number c) tr l))
crossing_said c t words numbers None l small is it e h k = (tt, λ f. absurd f)
crossing_said c t words numbers (Some tk) None small is it e h k = (tt, λ f. absurd f)
crossing_said c t words numbers (Some tk) (Some l) false is it e h k = rw e (tt, λ f. absurd f)
crossing_said c t words numbers (Some tk) (Some l) true is it e h k =
    let track = track_said t tk it h in
    let channel = small_word c is e in
    rw e (
      ap (λ (n : ℕ). number c ∷ n ∷ numbers) track.1 ∙ ap (λ (ns : List ℕ). number c ∷ track_number tk ∷ ns) k.1,
      λ f. ap (λ (w : List ℕ). codes "fuse" ∷ w ∷ t ∷ words) channel ∙ ap (λ (w : List ℕ). codes "fuse" ∷ decimal (number c) ∷ w ∷ words) track.0 ∙ ap (λ (ws : List (List ℕ)). codes "fuse" ∷ decimal (number c) ∷ track_word tk ∷ ws) k.0,
    )

along_said : (c t i : List ℕ) (tr : Option Track) (small : Bool) → IsTrue (is_number c) → IsTrue (is_track t) → IsTrue (is_number i) → (is_small (number c) && is_small (number i)) ≡ small → track_of t ≡ tr
    → Reads (codes "fuse" ∷ c ∷ t ∷ codes "along" ∷ i ∷ []) (form.Fuse (number c ∷ track_order t ∷ 0 ∷ number i ∷ []) (along (number c) tr (number i)))
along_said c t i None small is it ii e h = (tt, λ f. absurd f)
along_said c t i (Some track.Gnd) small is it ii e h = (tt, λ f. absurd f)
along_said c t i (Some track.Vcc) small is it ii e h = (tt, λ f. absurd f)
along_said c t i (Some track.Clk) small is it ii e h = (tt, λ f. absurd f)
along_said c t i (Some (track.Signal n)) false is it ii e h = rw e (tt, λ f. absurd f)
along_said c t i (Some (track.Signal n)) true is it ii e h =
    let track = track_said t (track.Signal n) it h in
    let parts = both (is_small (number c)) (is_small (number i)) e in
    let channel = small_word c is parts.0 in
    let index = small_word i ii parts.1 in
    rw e (
      ap (λ (m : ℕ). number c ∷ m ∷ 0 ∷ number i ∷ []) track.1,
      λ f. ap (λ (w : List ℕ). codes "fuse" ∷ w ∷ t ∷ codes "along" ∷ i ∷ []) channel ∙ ap (λ (w : List ℕ). codes "fuse" ∷ decimal (number c) ∷ w ∷ codes "along" ∷ i ∷ []) track.0 ∙ ap (λ (w : List ℕ). codes "fuse" ∷ decimal (number c) ∷ decimal n ∷ codes "along" ∷ w ∷ []) index,
    )

two_small : (a b : List ℕ) (word : List ℕ) (l : Line) (numbers : List ℕ) (small : Bool) → (is_small (number a) && is_small (number b)) ≡ small → IsTrue (is_number a) → IsTrue (is_number b)
    → (words : List ℕ → List ℕ → List (List ℕ)) → words (decimal (number a)) (decimal (number b)) ≡ line_words l → numbers ≡ line_numbers l → IsLineOf (words a b) numbers (cond small (Some l) None)
two_small a b word l numbers false e ia ib words h k = tt
two_small a b word l numbers true e ia ib words h k =
    let parts = both (is_small (number a)) (is_small (number b)) e in
    (ap (λ (w : List ℕ). words w b) (small_word a ia parts.0) ∙ ap (λ (w : List ℕ). words (decimal (number a)) w) (small_word b ib parts.1) ∙ h, k)

pad_small : (p : List ℕ) (small : Bool) → nat_le (number p) 65535 ≡ small → IsTrue (is_number p) → IsLineOf (codes "pad" ∷ p ∷ []) (4 ∷ number p ∷ []) (cond small (Some (line.Pad (number p))) None)
pad_small p false e ip = tt
pad_small p true e ip = (ap (λ (w : List ℕ). codes "pad" ∷ w ∷ []) (spelled p ip (wide_is (number p) e)), refl)

pin_small : (r c w : List ℕ) (pin : ℕ) → IsTrue (is_number r) → IsTrue (is_number c) → w ≡ pin_name pin → IsLineOf (codes "pin" ∷ r ∷ c ∷ w ∷ []) (1 ∷ number r ∷ number c ∷ pin ∷ []) (pin_at (number r) (number c) pin)
pin_small r c w pin ir ic is =
    two_small r c w (line.Pin (number r) (number c) pin) (1 ∷ number r ∷ number c ∷ pin ∷ []) _ refl ir ic (λ a b. codes "pin" ∷ a ∷ b ∷ w ∷ [])
    (ap (λ (x : List ℕ). codes "pin" ∷ decimal (number r) ∷ decimal (number c) ∷ x ∷ []) is) refl

-- the words with which each antifuse begins
fuse_begins : (words : List (List ℕ)) (word c t : List ℕ) (l : FuseLine) → IsTrue (is_fuse word c t) → (IsTrue (is_number c) → IsTrue (is_track t) → Reads (codes "fuse" ∷ c ∷ t ∷ words) l) → Reads (word ∷ c ∷ t ∷ words) l
fuse_begins words word c t l h then =
    let outer = both (bytes_eq word (codes "fuse") && is_number c) (is_track t) h in
    let inner = both (bytes_eq word (codes "fuse")) (is_number c) outer.0 in
    subst (λ (w : List ℕ). Reads (w ∷ c ∷ t ∷ words) l) (sym (same_word word (codes "fuse") inner.0)) (then inner.1 outer.1)

-- a word in its place
in_place : (a b : List ℕ) (words : List ℕ → List (List ℕ)) (l : FuseLine) → IsTrue (bytes_eq a b) → Reads (words b) l → Reads (words a) l
in_place a b words l h r = subst (λ (w : List ℕ). Reads (words w) l) (sym (same_word a b h)) r

one_said : (a : List ℕ) (l : FuseLine) → end_of a ≡ Some l → Reads (a ∷ []) l
one_said a l = one_of (a ∷ []) (bytes_eq a (codes "end")) form.End None l (λ h. in_place a (codes "end") (λ w. w ∷ []) form.End h (tt, λ f. refl)) (no_more (a ∷ []) l)

named_said : (a word b : List ℕ) (l : FuseLine) → IsTrue (bytes_eq a word && is_name b) → (IsTrue (is_name b) → Reads (word ∷ b ∷ []) l) → Reads (a ∷ b ∷ []) l
named_said a word b l h then = let p = both (bytes_eq a word) (is_name b) h in in_place a word (λ w. w ∷ b ∷ []) l p.0 (then p.1)

two_said : (a b : List ℕ) (l : FuseLine) → form_of_two a b ≡ Some l → Reads (a ∷ b ∷ []) l
two_said a b l =
    or_said (a ∷ b ∷ []) (device_of a b) (clock_of a b) l
    (one_of (a ∷ b ∷ []) (bytes_eq a (codes "device") && is_name b) (form.Device b) None l (λ h. named_said a (codes "device") b (form.Device b) h (λ fine. (fine, λ f. refl))) (no_more (a ∷ b ∷ []) l))
    (one_of (a ∷ b ∷ []) (bytes_eq a (codes "clock") && is_name b) (form.Clock b) None l (λ h. named_said a (codes "clock") b (form.Clock b) h (λ fine. (fine, λ f. refl))) (no_more (a ∷ b ∷ []) l))

port_said : (a word b c : List ℕ) (l : FuseLine) → IsTrue (bytes_eq a word && is_number b && is_name c) → (IsTrue (is_number b) → IsTrue (is_name c) → Reads (word ∷ b ∷ c ∷ []) l) → Reads (a ∷ b ∷ c ∷ []) l
port_said a word b c l h then =
    let outer = both (bytes_eq a word && is_number b) (is_name c) h in
    let inner = both (bytes_eq a word) (is_number b) outer.0 in
    in_place a word (λ w. w ∷ b ∷ c ∷ []) l inner.0 (then inner.1 outer.1)

header_said : (a b c : List ℕ) (l : FuseLine) → header_of a b c ≡ Some l → Reads (a ∷ b ∷ c ∷ []) l
header_said a b c l =
    one_of (a ∷ b ∷ c ∷ []) (bytes_eq a (codes "act1") && bytes_eq b (codes "fuses") && bytes_eq c (codes "1")) form.Header None l
    (λ h.
    let outer = both (bytes_eq a (codes "act1") && bytes_eq b (codes "fuses")) (bytes_eq c (codes "1")) h in
    let inner = both (bytes_eq a (codes "act1")) (bytes_eq b (codes "fuses")) outer.0 in
    in_place a (codes "act1") (λ w. w ∷ b ∷ c ∷ []) form.Header inner.0
    (in_place b (codes "fuses") (λ w. codes "act1" ∷ w ∷ c ∷ []) form.Header inner.1 (in_place c (codes "1") (λ w. codes "act1" ∷ codes "fuses" ∷ w ∷ []) form.Header outer.1 (tt, λ f. refl))))
    (no_more (a ∷ b ∷ c ∷ []) l)

three_said : (a b c : List ℕ) (l : FuseLine) → form_of_three a b c ≡ Some l → Reads (a ∷ b ∷ c ∷ []) l
three_said a b c l =
    or_said (a ∷ b ∷ c ∷ []) (header_of a b c) (port_of a b c) l (header_said a b c l)
    (or_said (a ∷ b ∷ c ∷ []) (input_of a b c) (output_of a b c) l
    (one_of (a ∷ b ∷ c ∷ []) (bytes_eq a (codes "in") && is_number b && is_name c) (form.In (number b) c) None l
    (λ h. port_said a (codes "in") b c (form.In (number b) c) h (λ ib ic. (ic, λ f. ap (λ (w : List ℕ). codes "in" ∷ w ∷ c ∷ []) (spelled b ib f))))
    (no_more (a ∷ b ∷ c ∷ []) l))
    (one_of (a ∷ b ∷ c ∷ []) (bytes_eq a (codes "out") && is_number b && is_name c) (form.Out (number b) c) None l
    (λ h. port_said a (codes "out") b c (form.Out (number b) c) h (λ ib ic. (ic, λ f. ap (λ (w : List ℕ). codes "out" ∷ w ∷ c ∷ []) (spelled b ib f))))
    (no_more (a ∷ b ∷ c ∷ []) l)))

few_is : (n : ℕ) → IsTrue (nat_le n 3) → n ≤ 3
few_is n h = grind (arith, nat_tests)

start_said : (a b c d e : List ℕ) → IsTrue (bytes_eq a (codes "start") && is_number b && is_number c && is_init d && is_name e) → Reads (a ∷ b ∷ c ∷ d ∷ e ∷ []) (form.Start (number b) (number c) (number d) e)
start_said a b c d e h =
    let h0 = both (bytes_eq a (codes "start") && is_number b && is_number c && is_init d) (is_name e) h in
    let h1 = both (bytes_eq a (codes "start") && is_number b && is_number c) (is_init d) h0.0 in
    let h2 = both (bytes_eq a (codes "start") && is_number b) (is_number c) h1.0 in
    let h3 = both (bytes_eq a (codes "start")) (is_number b) h2.0 in
    let init = both (is_number d) (nat_le (number d) 3) h1.1 in
    let few = few_is (number d) init.1 in
    let low : number d ≤ 65535 = omega (arith, few) in
    in_place a (codes "start") (λ w. w ∷ b ∷ c ∷ d ∷ e ∷ []) (form.Start (number b) (number c) (number d) e) h3.0 (
      (few, h0.1),
      λ f.
          ap (λ (w : List ℕ). codes "start" ∷ w ∷ c ∷ d ∷ e ∷ []) (spelled b h3.1 f.0)
          ∙ ap (λ (w : List ℕ). codes "start" ∷ decimal (number b) ∷ w ∷ d ∷ e ∷ []) (spelled c h2.1 f.1)
          ∙ ap (λ (w : List ℕ). codes "start" ∷ decimal (number b) ∷ decimal (number c) ∷ w ∷ e ∷ []) (spelled d init.0 low),
    )

fuse_of_five : (a b c d e form_word : List ℕ) (l : FuseLine) → IsTrue (is_fuse a b c && bytes_eq d form_word && is_number e)
    → (IsTrue (is_number b) → IsTrue (is_track c) → IsTrue (is_number e) → Reads (codes "fuse" ∷ b ∷ c ∷ form_word ∷ e ∷ []) l) → Reads (a ∷ b ∷ c ∷ d ∷ e ∷ []) l
fuse_of_five a b c d e form_word l h then =
    let h0 = both (is_fuse a b c && bytes_eq d form_word) (is_number e) h in
    let h1 = both (is_fuse a b c) (bytes_eq d form_word) h0.0 in
    fuse_begins (d ∷ e ∷ []) a b c l h1.0 (λ ib ic. in_place d form_word (λ w. codes "fuse" ∷ b ∷ c ∷ w ∷ e ∷ []) l h1.1 (then ib ic h0.1))

five_said : (a b c d e : List ℕ) (l : FuseLine) → form_of_five a b c d e ≡ Some l → Reads (a ∷ b ∷ c ∷ d ∷ e ∷ []) l
five_said a b c d e l =
    or_said (a ∷ b ∷ c ∷ d ∷ e ∷ []) (start_of a b c d e) (short_fuse_of a b c d e) l
    (one_of (a ∷ b ∷ c ∷ d ∷ e ∷ []) _ (form.Start (number b) (number c) (number d) e) None l (start_said a b c d e) (no_more (a ∷ b ∷ c ∷ d ∷ e ∷ []) l))
    (or_said (a ∷ b ∷ c ∷ d ∷ e ∷ []) (along_of a b c d e) (pad_of a b c d e) l
    (one_of (a ∷ b ∷ c ∷ d ∷ e ∷ []) _ (along_fuse b c e) None l
    (λ h. fuse_of_five a b c d e (codes "along") (along_fuse b c e) h (λ ib ic ie. along_said b c e (track_of c) _ ib ic ie refl refl)) (no_more (a ∷ b ∷ c ∷ d ∷ e ∷ []) l))
    (one_of (a ∷ b ∷ c ∷ d ∷ e ∷ []) _ (pad_fuse b c e) None l
    (λ h. fuse_of_five a b c d e (codes "pad") (pad_fuse b c e) h (λ ib ic ie. crossing_said b c (codes "pad" ∷ e ∷ []) (4 ∷ number e ∷ []) (track_of c) (pad_at (number e)) _ ib ic refl refl (pad_small e _ refl ie)))
    (no_more (a ∷ b ∷ c ∷ d ∷ e ∷ []) l)))

fuse_of_six : (a b c d e f form_word : List ℕ) (l : FuseLine) → IsTrue (is_fuse a b c && bytes_eq d form_word && is_number e && is_number f)
    → (IsTrue (is_number b) → IsTrue (is_track c) → IsTrue (is_number e) → IsTrue (is_number f) → Reads (codes "fuse" ∷ b ∷ c ∷ form_word ∷ e ∷ f ∷ []) l) → Reads (a ∷ b ∷ c ∷ d ∷ e ∷ f ∷ []) l
fuse_of_six a b c d e f form_word l h then =
    let h0 = both (is_fuse a b c && bytes_eq d form_word && is_number e) (is_number f) h in
    let h1 = both (is_fuse a b c && bytes_eq d form_word) (is_number e) h0.0 in
    let h2 = both (is_fuse a b c) (bytes_eq d form_word) h1.0 in
    fuse_begins (d ∷ e ∷ f ∷ []) a b c l h2.0 (λ ib ic. in_place d form_word (λ w. codes "fuse" ∷ b ∷ c ∷ w ∷ e ∷ f ∷ []) l h2.1 (then ib ic h1.1 h0.1))

six_said : (a b c d e f : List ℕ) (l : FuseLine) → form_of_six a b c d e f ≡ Some l → Reads (a ∷ b ∷ c ∷ d ∷ e ∷ f ∷ []) l
six_said a b c d e f l =
    or_said (a ∷ b ∷ c ∷ d ∷ e ∷ f ∷ []) (out_of a b c d e f) (long_of a b c d e f) l
    (one_of (a ∷ b ∷ c ∷ d ∷ e ∷ f ∷ []) _ (out_fuse b c e f) None l
    (λ h. fuse_of_six a b c d e f (codes "out") (out_fuse b c e f) h (λ ib ic ie i. crossing_said b c (codes "out" ∷ e ∷ f ∷ []) (2 ∷ number e ∷ number f ∷ []) (track_of c) (out_at (number e) (number f)) _ ib ic refl refl
    (two_small e f [] (line.Out (number e) (number f)) (2 ∷ number e ∷ number f ∷ []) _ refl ie i (λ x y. codes "out" ∷ x ∷ y ∷ []) refl refl)))
    (no_more (a ∷ b ∷ c ∷ d ∷ e ∷ f ∷ []) l))
    (one_of (a ∷ b ∷ c ∷ d ∷ e ∷ f ∷ []) _ (long_fuse b c e f) None l
    (λ h. fuse_of_six a b c d e f (codes "long") (long_fuse b c e f) h (λ ib ic ie i. crossing_said b c (codes "long" ∷ e ∷ f ∷ []) (3 ∷ number e ∷ number f ∷ []) (track_of c) (long_at (number e) (number f)) _ ib ic refl refl
    (two_small e f [] (line.Long (number e) (number f)) (3 ∷ number e ∷ number f ∷ []) _ refl ie i (λ x y. codes "long" ∷ x ∷ y ∷ []) refl refl)))
    (no_more (a ∷ b ∷ c ∷ d ∷ e ∷ f ∷ []) l))

seven_said : (a b c d e f g : List ℕ) (pin : Option ℕ) (l : FuseLine) → pin_number g ≡ pin → pin_of a b c d e f pin ≡ Some l → Reads (a ∷ b ∷ c ∷ d ∷ e ∷ f ∷ g ∷ []) l
seven_said a b c d e f g None l is e0 = cc
seven_said a b c d e f g (Some pin) l is e0 =
    one_of (a ∷ b ∷ c ∷ d ∷ e ∷ f ∷ g ∷ []) _ (pin_fuse b c e f pin) None l
    (λ h.
    let h0 = both (is_fuse a b c && bytes_eq d (codes "pin") && is_number e) (is_number f) h in
    let h1 = both (is_fuse a b c && bytes_eq d (codes "pin")) (is_number e) h0.0 in
    let h2 = both (is_fuse a b c) (bytes_eq d (codes "pin")) h1.0 in
    fuse_begins (d ∷ e ∷ f ∷ g ∷ []) a b c (pin_fuse b c e f pin) h2.0 (λ ib ic.
    in_place d (codes "pin") (λ w. codes "fuse" ∷ b ∷ c ∷ w ∷ e ∷ f ∷ g ∷ []) (pin_fuse b c e f pin) h2.1
    (crossing_said b c (codes "pin" ∷ e ∷ f ∷ g ∷ []) (1 ∷ number e ∷ number f ∷ pin ∷ []) (track_of c) (pin_at (number e) (number f) pin) _ ib ic refl refl (pin_small e f g pin h1.1 h0.1 (pin_said g pin is)))))
    (no_more (a ∷ b ∷ c ∷ d ∷ e ∷ f ∷ g ∷ []) l) e0

-- the words that are of a form are those of its line, where the numbers fit
pub words_are : (words : List (List ℕ)) (l : FuseLine) → form_of words ≡ Some l → Reads words l
words_are [] l e = cc
words_are (a ∷ []) l e = one_said a l e
words_are (a ∷ b ∷ []) l e = two_said a b l e
words_are (a ∷ b ∷ c ∷ []) l e = three_said a b c l e
words_are (a ∷ b ∷ c ∷ d ∷ []) l e = cc
words_are (a ∷ b ∷ c ∷ d ∷ e ∷ []) l e0 = five_said a b c d e l e0
words_are (a ∷ b ∷ c ∷ d ∷ e ∷ f ∷ []) l e0 = six_said a b c d e f l e0
words_are (a ∷ b ∷ c ∷ d ∷ e ∷ f ∷ g ∷ []) l e0 = seven_said a b c d e f g (pin_number g) l refl e0
words_are (a ∷ b ∷ c ∷ d ∷ e ∷ f ∷ g ∷ h ∷ words) l e0 = cc
