-- The lines of starts and antifuses that keep the rules.
use Rattle.std.proofs.Common.{ℕ, ◌≡◌, ◌≢◌, ◌<◌, ◌≤◌, ◌==◌, nat_lt, true, false, not, ◌&&◌, ◌||◌, IsTrue, List, [], ◌∷◌, ◌++◌, map, Some, codes, sym, ap, subst, ◌∙◌, ◌⊎◌, inl, inr, append_assoc, arith}
use Rattle.std.specs.Prelude.{if◌then◌else◌}
use Rattle.std.specs.Fmt.{decimal}
use Rattle.std.proofs.lemmas.List.{map-append}
use Rattle.std.proofs.lemmas.Bool.{cases_eq, cases_lt}
use Rattle.std.proofs.lemmas.Bool.Decides.{nat_tests}
use Rattle.act1_base.specs.Names.{is_name}
use Rattle.act1_base.specs.Rising.{Rises, is_before}
use Rattle.act1_device.specs.declared.device.Device.{Device}
use Rattle.act1_device.specs.declared.device.Site.{Site}
use Rattle.act1_device.specs.Order.{SiteIsBefore, site_numbers}
use Rattle.act1_device.specs.Sites.{IsSite}
use Rattle.act1_circuit.specs.declared.circuit.Spot.{Spot}
use Rattle.act1_circuit.specs.Spots.{SpotIsBefore}
use Rattle.act1_fuses.specs.declared.form.FuseLine.TheVariants as form
use Rattle.act1_fuses.specs.declared.form.FuseState.{FuseState}
use Rattle.act1_fuses.specs.declared.fuses.StartAt.{StartAt}
use Rattle.act1_fuses.specs.Given.{is_among, is_clock}
use Rattle.act1_fuses.specs.Reading.{may_follow, comes_after}
use Rattle.act1_fuses.specs.Rules.{port_names, start_names, IsApart, IsStart}
use Rattle.act1_fuses.specs.Text.{port_words, start_words, site_words}
use Rattle.act1_fuses.proofs.Pushes.{all_push, any_append, names_push, apart_push, last_of, last_push, rises_push}
use Rattle.act1_fuses.proofs.ReadStates.{names_of, sources_of, spots_of, Different, AreNames, spot_numbers, IsGood, said_inside, is_not, both, neither, Next, follows_6, follows_7}
use Rattle.act1_fuses.proofs.ReadPorts.{head_of, in_third, in_fourth, below_of, or_no}

is_same : (a b : ℕ) → a ≡ b → (a == b) ≡ true
is_same a b e = grind (arith, nat_tests)

-- the numbers that a line has to come after are those of the last line of its kind
pub after_last : (place own : ℕ) (last numbers : List ℕ) → (place ≡ own → last ≡ numbers) → (place ≢ own → [] ≡ numbers) → (place ≡ own) ⊎ (place ≢ own) → (if place == own then last else []) ≡ numbers
after_last place own last numbers is none (inl e) = rw (is_same place own e) (is e)
after_last place own last numbers is none (inr e) = rw (is_not place own e) (none e)

row_or_column : (a b c d : ℕ) → IsTrue (nat_lt a c || (a == c && (nat_lt b d || (b == d && false)))) → (a < c) ⊎ (c ≤ a) → (a < c) ⊎ ((a ≡ c) × (b < d))
row_or_column a b c d h (inl p) = inl p
row_or_column a b c d h (inr p) = inr (grind (arith, nat_tests), grind (arith, nat_tests))

pub spot_before : (a b : Spot) → IsTrue (is_before (spot_numbers a) (spot_numbers b)) → SpotIsBefore a b
spot_before a b h = row_or_column a.row a.column b.row b.column h (cases_lt a.row b.row)

abbrev pub start_of : ℕ → ℕ → ℕ → List ℕ → StartAt
start_of row column init name = record { spot = record { row = row; column = column }; init = init; name = name }

module _ (dev : Device) (s : FuseState) (good : IsGood dev s) where
  module _ (row column init : ℕ) (name : List ℕ) (low : init ≤ 3) (fine : IsTrue (is_name name)) where
    abbrev new : StartAt
    new = start_of row column init name

    pub next_start : IsTrue (may_follow s.place 6) → IsTrue (comes_after s 6 (row ∷ column ∷ [])) → IsTrue (nat_lt row dev.rows && nat_lt column dev.columns) → IsTrue (not (is_clock s.file.clock name || is_among name (port_names s.file.ins) || is_among name (start_names s.file.starts)))
        → Next dev s (form.Start row column init name) (codes "start" ∷ decimal row ∷ decimal column ∷ decimal init ∷ name ∷ [])
    next_start h rises on free =
        let at = follows_6 s.place h in
        let si = good.no_sites (omega arith) in
        let spot = both (nat_lt row dev.rows) (nat_lt column dev.columns) on in
        let taken = neither (is_clock s.file.clock name || is_among name (port_names s.file.ins)) (is_among name (start_names s.file.starts)) free in
        let apart = or_no (is_clock s.file.clock name) (is_among name (port_names s.file.ins)) taken.0 in
        let more = map-append (λ (start : StartAt). start.name) s.file.starts (new ∷ []) in
        let spots = map-append (λ (start : StartAt). start.spot) s.file.starts (new ∷ []) in
        let names : port_names s.file.ins ++ port_names s.file.outs ++ start_names (s.file.starts ++ new ∷ []) ≡ names_of s.file ++ name ∷ []
        = ap (λ (l : List (List ℕ)). port_names s.file.ins ++ port_names s.file.outs ++ l) more ∙ sym (append_assoc (port_names s.file.ins ++ port_names s.file.outs) (start_names s.file.starts) (name ∷ [])) in
        let sources : port_names s.file.ins ++ start_names (s.file.starts ++ new ∷ []) ≡ sources_of s.file ++ name ∷ []
        = ap (λ (l : List (List ℕ)). port_names s.file.ins ++ l) more ∙ sym (append_assoc (port_names s.file.ins) (start_names s.file.starts) (name ∷ [])) in
        let last = after_last s.place 6 s.last (last_of spot_numbers (spots_of s.file.starts)) good.start_last
        (λ e. sym (ap (λ (l : List StartAt). last_of spot_numbers (spots_of l)) (good.no_starts (omega arith)))) (cases_eq s.place 6) in
        let rising = rises_push spot_numbers SpotIsBefore spot_before (spots_of s.file.starts) new.spot good.kept.spots_rise (subst (λ (l : List ℕ). IsTrue (is_before l (row ∷ column ∷ []))) last rises) in (
          record {
            kept = record {
              names = subst AreNames (sym names) (all_push (λ (n : List ℕ). IsTrue (is_name n)) (names_of s.file) name good.kept.names fine);
              inputs = subst Different (sym sources) (names_push name (sources_of s.file) good.kept.inputs (any_append _ (port_names s.file.ins) (start_names s.file.starts) apart.1 taken.1));
              outputs = good.kept.outputs;
              clock = subst (IsApart s.file.clock) (sym names) (apart_push s.file.clock (names_of s.file) name good.kept.clock apart.0);
              pads = good.kept.pads;
              once = good.kept.once;
              starts = all_push (IsStart dev) s.file.starts new good.kept.starts (record { row = below_of row dev.rows spot.0; column = below_of column dev.columns spot.1; init = low });
              spots_rise = subst (Rises SpotIsBefore) (sym spots) rising;
              sites = good.kept.sites;
              sites_rise = good.kept.sites_rise;
            };
            device = λ p. good.device (omega arith);
            no_clock = λ p. absurd (omega arith);
            no_ins = λ p. absurd (omega arith);
            no_outs = λ p. absurd (omega arith);
            no_starts = λ p. absurd (omega arith);
            no_sites = λ p. si;
            start_last = λ p. sym (ap (last_of spot_numbers) spots ∙ last_push spot_numbers (spots_of s.file.starts) new.spot);
            site_last = λ p. absurd (omega arith);
          },
          ap (λ (l : List (List (List ℕ))). head_of s.file ++ map (port_words (codes "in")) s.file.ins ++ map (port_words (codes "out")) s.file.outs ++ l ++ map site_words s.file.sites) (map-append start_words s.file.starts (new ∷ []))
              ∙ in_third (head_of s.file) (map (port_words (codes "in")) s.file.ins) (map (port_words (codes "out")) s.file.outs) (map start_words s.file.starts) (map site_words s.file.sites) (start_words new) (ap (map site_words) si)
              ∙ sym (ap (λ (lines : List (List (List ℕ))). lines ++ start_words new ∷ []) (said_inside s.place s.file at.0 (omega arith))),
        )

  pub next_fuse : (numbers : List ℕ) (site : Site) → numbers ≡ site_numbers site → IsTrue (may_follow s.place 7) → IsTrue (comes_after s 7 numbers) → IsSite dev site → Next dev s (form.Fuse numbers (Some site)) (site_words site)
  next_fuse numbers site is h rises on =
      let at = follows_7 s.place h in
      let last = after_last s.place 7 s.last (last_of site_numbers s.file.sites) good.site_last (λ e. sym (ap (last_of site_numbers) (good.no_sites (omega arith)))) (cases_eq s.place 7) in
      let before : IsTrue (is_before (last_of site_numbers s.file.sites) (site_numbers site)) = subst (λ (l : List ℕ). IsTrue (is_before l (site_numbers site))) last (subst (λ (ns : List ℕ). IsTrue (comes_after s 7 ns)) is rises) in (
        record {
          kept = record {
            names = good.kept.names;
            inputs = good.kept.inputs;
            outputs = good.kept.outputs;
            clock = good.kept.clock;
            pads = good.kept.pads;
            once = good.kept.once;
            starts = good.kept.starts;
            spots_rise = good.kept.spots_rise;
            sites = all_push (IsSite dev) s.file.sites site good.kept.sites on;
            sites_rise = rises_push site_numbers SiteIsBefore (λ a b k. k) s.file.sites site good.kept.sites_rise before;
          };
          device = λ p. good.device (omega arith);
          no_clock = λ p. absurd (omega arith);
          no_ins = λ p. absurd (omega arith);
          no_outs = λ p. absurd (omega arith);
          no_starts = λ p. absurd (omega arith);
          no_sites = λ p. absurd (omega arith);
          start_last = λ p. absurd (omega arith);
          site_last = λ p. is ∙ sym (last_push site_numbers s.file.sites site);
        },
        ap (λ (l : List (List (List ℕ))). head_of s.file ++ map (port_words (codes "in")) s.file.ins ++ map (port_words (codes "out")) s.file.outs ++ map start_words s.file.starts ++ l) (map-append site_words s.file.sites (site ∷ []))
            ∙ in_fourth (head_of s.file) (map (port_words (codes "in")) s.file.ins) (map (port_words (codes "out")) s.file.outs) (map start_words s.file.starts) (map site_words s.file.sites) (site_words site)
            ∙ sym (ap (λ (lines : List (List (List ℕ))). lines ++ site_words site ∷ []) (said_inside s.place s.file at.0 at.1)),
      )
