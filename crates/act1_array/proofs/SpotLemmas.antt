-- The marks of used modules, and the spots that they give.
use Rattle.std.proofs.Common.{ℕ, suc, zero, ◌≡◌, ◌≢◌, ◌<◌, ◌≤◌, ◌⊎◌, ◌+◌, ◌*◌, ◌/◌, ◌%◌, ◌&&◌, Bool, true, false, IsTrue, List, [], ◌∷◌, ◌++◌, length, get_or, drop, drop-cons, add-one, replicate, Some, refl, sym, ap, subst, ◌∙◌, inl, inr, arith}
use Rattle.std.specs.Prelude.{if◌then◌else◌, Contains, slice_get, slice_set, All}
use Rattle.std.proofs.lemmas.Bool.{cases_eq, cases_lt, false≢true}
use Rattle.std.proofs.lemmas.List.{length-set, drop_all, append-nil}
use Rattle.std.proofs.lemmas.List.Elements.{All-contains, All-weaker}
use Rattle.act1_base.specs.Rising.{Rises}
use Rattle.act1_device.specs.declared.device.Device.{Device}
use Rattle.act1_device.specs.declared.device.Track.{Track}
use Rattle.act1_device.specs.declared.device.Line.TheVariants as line
use Rattle.act1_device.specs.declared.device.Site.{Site}
use Rattle.act1_device.specs.declared.device.Site.TheVariants.{Along, Cross}
use Rattle.act1_device.specs.Laws.{DevicesAreSmall}
use Rattle.act1_device.specs.Sites.{IsSite}
use Rattle.act1_circuit.specs.declared.circuit.Spot.{Spot}
use Rattle.act1_circuit.specs.Spots.{SpotIsBefore}
use Rattle.act1_fuses.specs.Array.{IsUsed}
use Rattle.act1_array.specs.Gives.{AreUsed}
use Rattle.act1_array.specs.SpotSteps.{AreMarks, IsInside, IsNear, place_of, spot_of, with_use}
use Rattle.act1_base.proofs.ListGets.{some_is, get_within, get_written, get_unwritten}

both : (a b : Bool) → IsTrue (a && b) → IsTrue a × IsTrue b
both true true h = (refl, refl)
both true false h = absurd (false≢true h)
both false b h = absurd (false≢true h)

-- the sites of a device are inside the largest one
site_is_inside : DevicesAreSmall → (dev : Device) (site : Site) → IsSite dev site → IsInside site
site_is_inside small dev (Along channel t index) h = tt
site_is_inside small dev (Cross channel t (line.Pin row column pin)) h = tt
site_is_inside small dev (Cross channel t (line.Out row column)) h = let s = small dev in let rows = s.rows in let columns = s.columns in let low = h.0.0.0 in let left = h.0.0.1 in (omega arith, omega arith)
site_is_inside small dev (Cross channel t (line.Long column index)) h = tt
site_is_inside small dev (Cross channel t (line.Pad pad)) h = tt

pub sites_are_inside : DevicesAreSmall → (dev : Device) (sites : List Site) → All (IsSite dev) sites → All IsInside sites
sites_are_inside small dev sites h = All-weaker (IsSite dev) IsInside (site_is_inside small dev) sites h

-- the marks when some sites are looked at
abbrev pub with_uses : List Site → List Bool → List Bool
with_uses [] marks = marks
with_uses (site ∷ sites) marks = with_uses sites (with_use site marks)

pub use_keeps_length : (site : Site) (marks : List Bool) → length (with_use site marks) ≡ length marks
use_keeps_length (Along channel t index) marks = refl
use_keeps_length (Cross channel t (line.Pin row column pin)) marks = refl
use_keeps_length (Cross channel t (line.Out row column)) marks = length-set marks (row * 64 + column) true
use_keeps_length (Cross channel t (line.Long column index)) marks = refl
use_keeps_length (Cross channel t (line.Pad pad)) marks = refl

uses_keep_length : (sites : List Site) (marks : List Bool) → length (with_uses sites marks) ≡ length marks
uses_keep_length [] marks = refl
uses_keep_length (site ∷ sites) marks = uses_keep_length sites (with_use site marks) ∙ use_keeps_length site marks

written_stays : (marks : List Bool) (i j : ℕ) → slice_get marks j ≡ Some true → slice_get (slice_set marks i true) j ≡ Some true
written_stays marks i j e = by (cases_eq j i)
  where
    by : (j ≡ i) ⊎ (j ≢ i) → slice_get (slice_set marks i true) j ≡ Some true
    by (inl is) = subst (λ (k : ℕ). slice_get (slice_set marks k true) j ≡ Some true) is (get_written marks j true (get_within marks j true e))
    by (inr apart) = get_unwritten marks i j true apart ∙ e

use_keeps : (site : Site) (marks : List Bool) (place : ℕ) → slice_get marks place ≡ Some true → slice_get (with_use site marks) place ≡ Some true
use_keeps (Along channel t index) marks place e = e
use_keeps (Cross channel t (line.Pin row column pin)) marks place e = e
use_keeps (Cross channel t (line.Out row column)) marks place e = written_stays marks (row * 64 + column) place e
use_keeps (Cross channel t (line.Long column index)) marks place e = e
use_keeps (Cross channel t (line.Pad pad)) marks place e = e

uses_keep : (sites : List Site) (marks : List Bool) (place : ℕ) → slice_get marks place ≡ Some true → slice_get (with_uses sites marks) place ≡ Some true
uses_keep [] marks place e = e
uses_keep (site ∷ sites) marks place e = uses_keep sites (with_use site marks) place (use_keeps site marks place e)

abbrev out_site : ℕ → Track → Spot → Site
out_site channel t s = Cross channel t (line.Out s.row s.column)

use_marks : (channel : ℕ) (t : Track) (s : Spot) (site : Site) (marks : List Bool) → site ≡ out_site channel t s → place_of s < length marks → slice_get (with_use site marks) (place_of s) ≡ Some true
use_marks channel t s site marks e low = subst (λ (x : Site). slice_get (with_use x marks) (place_of s) ≡ Some true) (sym e) (get_written marks (place_of s) true low)

uses_mark : (channel : ℕ) (t : Track) (s : Spot) (sites : List Site) (marks : List Bool) → Contains sites (out_site channel t s) → place_of s < length marks → slice_get (with_uses sites marks) (place_of s) ≡ Some true
uses_mark channel t s [] marks k low = absurd (omega (arith, k.1))
uses_mark channel t s (site ∷ sites) marks (zero, within, e) low = uses_keep sites (with_use site marks) (place_of s) (use_marks channel t s site marks e low)
uses_mark channel t s (site ∷ sites) marks (suc k, within, e) low = uses_mark channel t s sites (with_use site marks) (k, omega arith, e) (let l = use_keeps_length site marks in omega arith)

in_more : (site : Site) (sites : List Site) (s : Spot) → IsUsed sites s → IsUsed (site ∷ sites) s
in_more site sites s (channel, t, (k, low, e)) = (channel, t, (suc k, omega arith, e))

place_is : (row column : ℕ) → column < 64 → ◌≡◌ {A = Spot} (spot_of (row * 64 + column)) (record { row = row; column = column })
place_is row column low =
    let r : (row * 64 + column) / 64 ≡ row = omega arith in let c : (row * 64 + column) % 64 ≡ column = omega arith in
    ap (λ (x : ℕ). let s : Spot = record { row = x; column = (row * 64 + column) % 64 } in s) r ∙ ap (λ (x : ℕ). let s : Spot = record { row = row; column = x } in s) c

-- a mark was there, or the site's module is the one at the place
use_only : (site : Site) (sites : List Site) (marks : List Bool) (place : ℕ) → IsInside site → slice_get (with_use site marks) place ≡ Some true → (slice_get marks place ≡ Some true) ⊎ IsUsed (site ∷ sites) (spot_of place)
use_only (Along channel t index) sites marks place inside e = inl e
use_only (Cross channel t (line.Pin row column pin)) sites marks place inside e = inl e
use_only (Cross channel t (line.Out row column)) sites marks place inside e = by (cases_eq place (row * 64 + column))
  where
    by : (place ≡ row * 64 + column) ⊎ (place ≢ row * 64 + column) → (slice_get marks place ≡ Some true) ⊎ IsUsed (Cross channel t (line.Out row column) ∷ sites) (spot_of place)
    by (inl is) =
        inr (subst (λ (s : Spot). IsUsed (Cross channel t (line.Out row column) ∷ sites) s) (sym (ap spot_of is ∙ place_is row column inside.1)) (channel, t, (0, omega arith, refl)))
    by (inr apart) = inl (sym (get_unwritten marks (row * 64 + column) place true apart) ∙ e)
use_only (Cross channel t (line.Long column index)) sites marks place inside e = inl e
use_only (Cross channel t (line.Pad pad)) sites marks place inside e = inl e

all_rest : (site : Site) (sites : List Site) → All IsInside (site ∷ sites) → All IsInside sites
all_rest site sites h = λ k d low. h (suc k) d (omega arith)

uses_only : (sites : List Site) (marks : List Bool) (place : ℕ) → All IsInside sites → slice_get (with_uses sites marks) place ≡ Some true → (slice_get marks place ≡ Some true) ⊎ IsUsed sites (spot_of place)
uses_only [] marks place inside e = inl e
uses_only (site ∷ sites) marks place inside e = by (uses_only sites (with_use site marks) place (all_rest site sites inside) e)
  where
    by : (slice_get (with_use site marks) place ≡ Some true) ⊎ IsUsed sites (spot_of place) → (slice_get marks place ≡ Some true) ⊎ IsUsed (site ∷ sites) (spot_of place)
    by (inl m) = use_only site sites marks place (inside 0 site (omega arith)) m
    by (inr u) = inr (in_more site sites (spot_of place) u)

none_marked : (n place : ℕ) → slice_get (replicate n false) place ≢ Some true
none_marked zero place e = cc
none_marked (suc n) zero e = cc
none_marked (suc n) (suc place) e = none_marked n place e

used_is_near : (sites : List Site) (s : Spot) → All IsInside sites → IsUsed sites s → IsNear s
used_is_near sites s inside (channel, t, k) = All-contains IsInside sites (out_site channel t s) inside k

pub length_marks : (n : ℕ) → length (replicate n false) ≡ n
length_marks zero = refl
length_marks (suc n) = ap suc (length_marks n)

-- from no marks the sites make the marks
pub marks_made : (sites : List Site) (marks : List Bool) → All IsInside sites → marks ≡ with_uses sites (replicate 2048 false) → AreMarks sites marks
marks_made sites marks inside is = record {
  all = ap length is ∙ uses_keep_length sites (replicate 2048 false) ∙ length_marks 2048;
  marked = λ s u. let near = used_is_near sites s inside u in (near, ap (λ (ms : List Bool). slice_get ms (place_of s)) is ∙ uses_mark u.0 u.1 s sites (replicate 2048 false) u.2 (let l = length_marks 2048 in omega (arith, near.0, near.1)));
  only = λ place e. by place (uses_only sites (replicate 2048 false) place inside (sym (ap (λ (ms : List Bool). slice_get ms place) is) ∙ e));
}
  where
    by : (place : ℕ) → (slice_get (replicate 2048 false) place ≡ Some true) ⊎ IsUsed sites (spot_of place) → IsUsed sites (spot_of place)
    by place (inl m) = absurd (none_marked 2048 place m)
    by place (inr u) = u

-- the spots of the marked places from one on
abbrev pub spots_from : ℕ → List Bool → List Spot
spots_from n [] = []
spots_from n (mark ∷ marks) = if mark then spot_of n ∷ spots_from (n + 1) marks else spots_from (n + 1) marks

spot_before : (m n : ℕ) → m < n → SpotIsBefore (spot_of m) (spot_of n)
spot_before m n low = by (cases_lt (m / 64) (n / 64))
  where
    by : (m / 64 < n / 64) ⊎ (n / 64 ≤ m / 64) → SpotIsBefore (spot_of m) (spot_of n)
    by (inl h) = inl h
    by (inr h) = inr (omega arith, omega arith)

-- a spot of the list is that of a marked place
spot_in : (n : ℕ) (marks : List Bool) (s : Spot) → Contains (spots_from n marks) s → (k : ℕ) × (slice_get marks k ≡ Some true) × (s ≡ spot_of (n + k))
spot_in n [] s k = absurd (omega (arith, k.1))
spot_in n (true ∷ marks) s (zero, low, e) = (0, refl, sym e ∙ ap spot_of (let z : n ≡ n + 0 = omega arith in z))
spot_in n (true ∷ marks) s (suc k, low, e) =
    let r = spot_in (n + 1) marks s (k, omega arith, e) in (suc r.0, r.1, r.2 ∙ ap spot_of (let z : n + 1 + r.0 ≡ n + suc r.0 = omega arith in z))
spot_in n (false ∷ marks) s k =
    let r = spot_in (n + 1) marks s k in (suc r.0, r.1, r.2 ∙ ap spot_of (let z : n + 1 + r.0 ≡ n + suc r.0 = omega arith in z))

in_tail : (x : Spot) (xs : List Spot) (s : Spot) → Contains xs s → Contains (x ∷ xs) s
in_tail x xs s (k, low, e) = (suc k, omega arith, e)

in_spots : (n : ℕ) (marks : List Bool) (k : ℕ) → slice_get marks k ≡ Some true → Contains (spots_from n marks) (spot_of (n + k))
in_spots n [] k e = cc
in_spots n (true ∷ marks) zero e = (0, omega arith, ap spot_of (let z : n ≡ n + 0 = omega arith in z))
in_spots n (false ∷ marks) zero e = absurd (false≢true (some_is false true e))
in_spots n (true ∷ marks) (suc k) e =
    in_tail (spot_of n) (spots_from (n + 1) marks) (spot_of (n + suc k)) (subst (λ (p : ℕ). Contains (spots_from (n + 1) marks) (spot_of p)) (let z : n + 1 + k ≡ n + suc k = omega arith in z) (in_spots (n + 1) marks k e))
in_spots n (false ∷ marks) (suc k) e =
    subst (λ (p : ℕ). Contains (spots_from (n + 1) marks) (spot_of p)) (let z : n + 1 + k ≡ n + suc k = omega arith in z) (in_spots (n + 1) marks k e)

rises_cons : (x : Spot) (xs : List Spot) → ((s : Spot) → Contains xs s → SpotIsBefore x s) → Rises SpotIsBefore xs → Rises SpotIsBefore (x ∷ xs)
rises_cons x [] h r = tt
rises_cons x (y ∷ ys) h r = (h y (0, omega arith, refl), r)

spots_rise : (n : ℕ) (marks : List Bool) → Rises SpotIsBefore (spots_from n marks)
spots_rise n [] = tt
spots_rise n (true ∷ marks) =
    rises_cons (spot_of n) (spots_from (n + 1) marks)
    (λ s k. let r = spot_in (n + 1) marks s k in subst (λ (u : Spot). SpotIsBefore (spot_of n) u) (sym r.2) (spot_before n (n + 1 + r.0) (omega arith)))
    (spots_rise (n + 1) marks)
spots_rise n (false ∷ marks) = spots_rise (n + 1) marks

few_spots : (n : ℕ) (marks : List Bool) → length (spots_from n marks) ≤ length marks
few_spots n [] = omega arith
few_spots n (true ∷ marks) = let r = few_spots (n + 1) marks in omega arith
few_spots n (false ∷ marks) = let r = few_spots (n + 1) marks in omega arith

-- the spots of the marks are those of the used modules
pub spots_are_used : (sites : List Site) (marks : List Bool) (spots : List Spot) → AreMarks sites marks → spots ≡ spots_from 0 marks → AreUsed sites spots × (length spots ≤ 2048)
spots_are_used sites marks spots m is = (
  record {
    rise = subst (λ (xs : List Spot). Rises SpotIsBefore xs) (sym is) (spots_rise 0 marks);
    used = λ s. (λ u. subst (λ (xs : List Spot). Contains xs s) (sym is) (forth s u), λ k. back s (subst (λ (xs : List Spot). Contains xs s) is k));
  },
  let few = few_spots 0 marks in let all = m.all in let same = ap length is in omega arith,
)
  where
    forth : (s : Spot) → IsUsed sites s → Contains (spots_from 0 marks) s
    forth s u =
        let r = m.marked s u in
        subst (λ (x : Spot). Contains (spots_from 0 marks) x) (ap spot_of (let z : 0 + place_of s ≡ place_of s = omega arith in z) ∙ place_is s.row s.column r.0.1) (in_spots 0 marks (place_of s) r.1)

    back : (s : Spot) → Contains (spots_from 0 marks) s → IsUsed sites s
    back s k =
        let r = spot_in 0 marks s k in
        subst (λ (x : Spot). IsUsed sites x) (sym (r.2 ∙ ap spot_of (let z : 0 + r.0 ≡ r.0 = omega arith in z))) (m.only r.0 r.1)

pub uses_more : (sites : List Site) (i : ℕ) (marks : List Bool) (d : Site) → i < length sites → with_uses (drop i sites) marks ≡ with_uses (drop (i + 1) sites) (with_use (get_or sites i d) marks)
uses_more sites i marks d low = rw (add-one, drop-cons sites i d low) refl

pub uses_end : (sites : List Site) (i : ℕ) (marks : List Bool) → length sites ≤ i → with_uses (drop i sites) marks ≡ marks
uses_end sites i marks high = ap (λ (rest : List Site). with_uses rest marks) (drop_all i sites high)

pub spots_end : (spots : List Spot) (n : ℕ) (marks : List Bool) → length marks ≤ n → spots ++ spots_from n (drop n marks) ≡ spots_from 0 marks → spots ≡ spots_from 0 marks
spots_end spots n marks high h = sym (append-nil spots) ∙ ap (λ (rest : List Bool). spots ++ spots_from n rest) (sym (drop_all n marks high)) ∙ h
