-- The text of a file that keeps the rules is read as that file.
use Rattle.std.proofs.Common.{ℕ, ◌≡◌, ◌≢◌, ◌-◌, ◌<◌, ◌≤◌, ◌==◌, nat_le, nat_lt, Bool, true, false, not, ◌&&◌, ◌||◌, IsTrue, List, [], ◌∷◌, ◌++◌, length, get_or, map, Option, Some, None, Ok, codes, zero, suc, refl, sym, ap, subst, ◌∙◌, inl, inr, append_assoc, arith}
use Rattle.std.specs.Fmt.{decimal}
use Rattle.std.specs.Str.{bytes_eq}
use Rattle.std.specs.List.{list_all}
use Rattle.std.proofs.lemmas.List.{append-nil, map-append}
use Rattle.std.proofs.lemmas.Bool.{cases_eq}
use Rattle.std.proofs.lemmas.Bool.Decides.{nat_tests}
use Rattle.std.proofs.lemmas.Slice.Eq.{bytes_eq-Decides}
use Rattle.act1_base.specs.Names.{is_name, is_name_byte}
use Rattle.act1_base.specs.Rising.{is_before}
use Rattle.act1_base.proofs.TextLines.{joined}
use Rattle.act1_device.specs.declared.device.Device.{Device}
use Rattle.act1_device.specs.declared.device.Site.{Site}
use Rattle.act1_device.specs.declared.device.Site.TheVariants.{Along, Cross}
use Rattle.act1_device.specs.Order.{SiteIsBefore, site_numbers}
use Rattle.act1_device.specs.Rules.{is_device_name, is_device_byte, is_within}
use Rattle.act1_device.specs.Sites.{IsSite}
use Rattle.act1_circuit.specs.declared.circuit.Spot.{Spot}
use Rattle.act1_circuit.specs.Spots.{SpotIsBefore}
use Rattle.act1_fuses.specs.declared.fault.FuseKind.TheVariants as kind
use Rattle.act1_fuses.specs.declared.form.FuseLine.TheVariants as form
use Rattle.act1_fuses.specs.declared.form.FuseState.{FuseState}
use Rattle.act1_fuses.specs.declared.fuses.FuseFile.{FuseFile}
use Rattle.act1_fuses.specs.declared.fuses.StartAt.{StartAt}
use Rattle.act1_fuses.proofs.Fields.{SiteFits, FitsFields}
use Rattle.act1_fuses.specs.Given.{is_among, is_clock}
use Rattle.act1_fuses.specs.Reading.{may_follow, comes_after, fault_of, state_with, first_state, fuse_rules}
use Rattle.act1_fuses.specs.Rules.{port_names, start_names, IsApart, IsStart, KeepsRules}
use Rattle.act1_fuses.specs.SiteTest.{is_site}
use Rattle.act1_fuses.specs.Text.{clock_lines, port_words, start_words, site_words, track_word, line_words, file_lines}
use Rattle.act1_fuses.proofs.Blanks.{named_without, start_without, site_without, code}
use Rattle.act1_fuses.proofs.Middles.{all_at, pairs_at, rises_at, none_among, apart_at, any_parts}
use Rattle.act1_fuses.proofs.Pushes.{not_or, or_parts, last_of, last_push}
use Rattle.act1_fuses.proofs.ReadAgain.{passes, line_runs, To, no_lines, line_more, and_on, follow_6, follow_7, follow_8, part_of, AtIns, AtOuts, ins_run, outs_run}
use Rattle.act1_fuses.proofs.ReadLaw.{few_rows, few_columns, device_name}
use Rattle.act1_fuses.proofs.ReadSites.{after_last}
use Rattle.act1_fuses.proofs.ReadStates.{names_of, sources_of, spots_of, spot_numbers, both, header}
use Rattle.act1_fuses.proofs.SiteTests.{site_then}
use Rattle.act1_fuses.proofs.Written.{device_form, clock_form, start_form, site_form}

-- a device's name may stand as a name
device_byte : (b : ℕ) → IsTrue (is_device_byte b) → IsTrue (is_name_byte b) × (b ≢ 92)
device_byte b h = (grind (arith, nat_tests), λ e. grind (arith, nat_tests))

device_bytes : (name : List ℕ) → IsTrue (list_all is_device_byte name) → IsTrue (list_all is_name_byte name)
device_bytes [] h = refl
device_bytes (b ∷ name) h = let p = both (is_device_byte b) (list_all is_device_byte name) h in rw ((device_byte b p.0).0) (device_bytes name p.1)

byte_at : (name : List ℕ) (k : ℕ) → k < length name → IsTrue (list_all is_device_byte name) → IsTrue (is_device_byte (get_or name k 0))
byte_at [] k low h = absurd (omega arith)
byte_at (b ∷ name) zero low h = (both (is_device_byte b) (list_all is_device_byte name) h).0
byte_at (b ∷ name) (suc k) low h = let less : k < length name = omega (arith, low) in byte_at name k less (both (is_device_byte b) (list_all is_device_byte name) h).1

name_parts : (n last : ℕ) (all : Bool) → 1 ≤ n → n ≤ 64 → IsTrue all → last ≢ 92 → IsTrue (nat_le 1 n && nat_le n 1024 && all && not (last == 92))
name_parts n last true some few h apart = grind (arith, nat_tests)
name_parts n last false some few h apart = cc

within_of : (n : ℕ) → IsTrue (is_within 1 64 n) → (1 ≤ n) × (n ≤ 64)
within_of n h = (grind (arith, nat_tests), grind (arith, nat_tests))

pub fine_device : (name : List ℕ) → IsTrue (is_device_name name) → IsTrue (is_name name)
fine_device name h =
    let p = both (is_within 1 64 (length name)) (list_all is_device_byte name) h in
    let size = within_of (length name) p.0 in
    let some = size.0 in
    let last = byte_at name (length name - 1) (omega (arith, some)) p.1 in
    name_parts (length name) (get_or name (length name - 1) 0) (list_all is_name_byte name) size.0 size.1 (device_bytes name p.1) (device_byte (get_or name (length name - 1) 0) last).1

lower : (a b : ℕ) → a < b → IsTrue (nat_lt a b)
lower a b h = grind (arith, nat_tests)

and_of : (a b : Bool) → IsTrue a → IsTrue b → IsTrue (a && b)
and_of true b h k = k
and_of false b h k = cc

not_true : (b : Bool) → b ≡ false → IsTrue (not b)
not_true true h = cc
not_true false h = refl

by_row : (a b c d : ℕ) → a < c → IsTrue (nat_lt a c || (a == c && (nat_lt b d || (b == d && false))))
by_row a b c d h = grind (arith, nat_tests)

by_column : (a b c d : ℕ) → a ≡ c → b < d → IsTrue (nat_lt a c || (a == c && (nat_lt b d || (b == d && false))))
by_column a b c d e h = grind (arith, nat_tests)

from_spots : (u v : Spot) → SpotIsBefore u v → IsTrue (is_before (spot_numbers u) (spot_numbers v))
from_spots u v (inl h) = by_row u.row u.column v.row v.column h
from_spots u v (inr h) = by_column u.row u.column v.row v.column h.0 h.1

some_numbers : (site : Site) → IsTrue (is_before [] (site_numbers site))
some_numbers (Along c t i) = refl
some_numbers (Cross c t l) = refl

module _ (dev : Device) (f : FuseFile) (keeps : KeepsRules dev f) (fits : FitsFields f) where
  -- the state among the starts
  record AtStarts (before : List StartAt) (s : FuseState) : Type 0 where
    file : s.file ≡ part_of f f.ins f.outs before []
    low : 2 ≤ s.place
    high : s.place ≤ 6
    last : s.place ≡ 6 → s.last ≡ last_of spot_numbers (spots_of before)
    fresh : s.place ≢ 6 → before ≡ []

  -- among the antifuses
  record AtSites (before : List Site) (s : FuseState) : Type 0 where
    file : s.file ≡ part_of f f.ins f.outs f.starts before
    low : 2 ≤ s.place
    high : s.place ≤ 7
    last : s.place ≡ 7 → s.last ≡ last_of site_numbers before
    fresh : s.place ≢ 7 → before ≡ []

  -- and behind the last line
  pub record AtEnd (s : FuseState) : Type 0 where
    pub file : s.file ≡ f
    pub place : s.place ≡ 8

  starts_run : (rest before : List StartAt) → f.starts ≡ before ++ rest → (s : FuseState) → AtStarts before s → To dev s (map start_words rest) (AtStarts f.starts)
  starts_run [] before e s at =
      let same = sym (e ∙ append-nil before) in
      no_lines dev s (AtStarts f.starts) (subst (λ (l : List StartAt). AtStarts l s) same at)
  starts_run (q ∷ rest) before e s at =
      let is : IsStart dev q = all_at (IsStart dev) f.starts before q rest e keeps.starts in
      let split : start_names f.starts ≡ start_names before ++ q.name ∷ start_names rest = ap start_names e ∙ map-append (λ (x : StartAt). x.name) before (q ∷ rest) in
      let spots : spots_of f.starts ≡ spots_of before ++ q.spot ∷ spots_of rest = ap spots_of e ∙ map-append (λ (x : StartAt). x.spot) before (q ∷ rest) in
      let names : names_of f ≡ (port_names f.ins ++ port_names f.outs ++ start_names before) ++ q.name ∷ start_names rest
      = ap (λ (l : List (List ℕ)). port_names f.ins ++ port_names f.outs ++ l) split ∙ sym (append_assoc (port_names f.ins ++ port_names f.outs) (start_names before) (q.name ∷ start_names rest)) in
      let sources : sources_of f ≡ (port_names f.ins ++ start_names before) ++ q.name ∷ start_names rest
      = ap (λ (l : List (List ℕ)). port_names f.ins ++ l) split ∙ sym (append_assoc (port_names f.ins) (start_names before) (q.name ∷ start_names rest)) in
      let fine : IsTrue (is_name q.name) = all_at (λ (n : List ℕ). IsTrue (is_name n)) (names_of f) _ q.name _ names keeps.names in
      let apart = apart_at f.clock (names_of f) _ q.name _ names keeps.clock in
      let others = or_parts (is_among q.name (port_names f.ins)) (is_among q.name (start_names before)) (any_parts (λ (n : List ℕ). bytes_eq n q.name) (port_names f.ins) (start_names before)
      (none_among q.name (port_names f.ins ++ start_names before) (pairs_at (λ (a b : List ℕ). a ≢ b) (sources_of f) (port_names f.ins ++ start_names before) q.name (start_names rest) sources keeps.inputs))) in
      let g : FuseFile = part_of f f.ins f.outs before [] in
      let free : (is_clock g.clock q.name || is_among q.name (port_names g.ins) || is_among q.name (start_names g.starts)) ≡ false = not_or _ (is_among q.name (start_names before)) (not_or _ (is_among q.name (port_names f.ins)) apart others.0) others.1 in
      let numbers = after_last s.place 6 s.last (last_of spot_numbers (spots_of before)) at.last (λ p. sym (ap (λ (l : List StartAt). last_of spot_numbers (spots_of l)) (at.fresh p))) (cases_eq s.place 6) in
      let rising : IsTrue (is_before (last_of spot_numbers (spots_of before)) (spot_numbers q.spot)) = rises_at spot_numbers SpotIsBefore from_spots (spots_of f.starts) (spots_of before) q.spot (spots_of rest) spots refl keeps.spots_rise in
      let after : IsTrue (comes_after s 6 (q.spot.row ∷ q.spot.column ∷ [])) = subst (λ (l : List ℕ). IsTrue (is_before l (spot_numbers q.spot))) (sym numbers) rising in
      let on = nat_lt q.spot.row dev.rows && nat_lt q.spot.column dev.columns in
      let is_on : IsTrue on = and_of (nat_lt q.spot.row dev.rows) (nat_lt q.spot.column dev.columns) (lower q.spot.row dev.rows is.row) (lower q.spot.column dev.columns is.column) in
      let fault : fault_of dev s (form.Start q.spot.row q.spot.column q.init q.name) ≡ None
      = subst (λ (h : FuseFile). fault_of dev (record { place = s.place; last = s.last; file = h }) (form.Start q.spot.row q.spot.column q.init q.name) ≡ None) (sym at.file)
      (passes (may_follow s.place 6) kind.Order ((comes_after s 6 (q.spot.row ∷ q.spot.column ∷ []), kind.Order) ∷ (on, kind.Site) ∷ (not (is_clock g.clock q.name || is_among q.name (port_names g.ins) || is_among q.name (start_names g.starts)), kind.Name) ∷ []) (follow_6 s.place at.low at.high)
      (passes (comes_after s 6 (q.spot.row ∷ q.spot.column ∷ [])) kind.Order ((on, kind.Site) ∷ (not (is_clock g.clock q.name || is_among q.name (port_names g.ins) || is_among q.name (start_names g.starts)), kind.Name) ∷ []) after
      (passes on kind.Site ((not (is_clock g.clock q.name || is_among q.name (port_names g.ins) || is_among q.name (start_names g.starts)), kind.Name) ∷ []) is_on (passes (not (is_clock g.clock q.name || is_among q.name (port_names g.ins) || is_among q.name (start_names g.starts))) kind.Name [] (not_true _ free) refl)))) in
      let rows = few_rows dev in
      let columns = few_columns dev in
      let row = is.row in
      let column = is.column in
      let init = is.init in
      let low_row : q.spot.row ≤ 65535 = omega (arith, rows, row) in
      let low_column : q.spot.column ≤ 65535 = omega (arith, columns, column) in
      let low_init : q.init ≤ 65535 = omega (arith, init) in
      let next : FuseState = state_with s (form.Start q.spot.row q.spot.column q.init q.name) in
      let high = at.high in
      let step = line_runs dev s (codes "start") (decimal q.spot.row ∷ decimal q.spot.column ∷ decimal q.init ∷ q.name ∷ []) (form.Start q.spot.row q.spot.column q.init q.name)
      (start_without 32 (omega arith) q.spot.row q.spot.column q.init q.name low_row low_column low_init fine)
      (start_form q.spot.row q.spot.column q.init q.name low_row low_column is.init fine) (λ e8. omega (arith, e8, high)) fault in
      line_more dev s next (start_words q) (map start_words rest) (AtStarts f.starts) step
      (starts_run rest (before ++ q ∷ []) (e ∙ sym (append_assoc before (q ∷ []) rest)) next
      (record {
        file = ap (λ (h : FuseFile). part_of h h.ins h.outs (h.starts ++ q ∷ []) h.sites) at.file;
        low = omega arith;
        high = omega arith;
        last = λ p. sym (ap (last_of spot_numbers) (map-append (λ (x : StartAt). x.spot) before (q ∷ [])) ∙ last_push spot_numbers (spots_of before) q.spot);
        fresh = λ p. absurd (p refl);
      }))

  site_step : (s : FuseState) (site : Site) → SiteFits site → s.place ≤ 7 → fault_of dev s (form.Fuse (site_numbers site) (Some site)) ≡ None
      → (fuse_rules dev).after s (joined (site_words site)) ≡ Ok (state_with s (form.Fuse (site_numbers site) (Some site)))
  site_step s (Along c t i) small high fault = line_runs dev s (codes "fuse") (decimal c ∷ decimal t ∷ codes "along" ∷ decimal i ∷ []) _ (site_without 32 (omega arith) (Along c t i) small) (site_form (Along c t i) small) (λ e8. omega (arith, e8, high)) fault
  site_step s (Cross c t l) small high fault = line_runs dev s (codes "fuse") (decimal c ∷ track_word t ∷ line_words l) _ (site_without 32 (omega arith) (Cross c t l) small) (site_form (Cross c t l) small) (λ e8. omega (arith, e8, high)) fault

  sites_run : (rest before : List Site) → f.sites ≡ before ++ rest → (s : FuseState) → AtSites before s → To dev s (map site_words rest) (AtSites f.sites)
  sites_run [] before e s at =
      let same = sym (e ∙ append-nil before) in
      no_lines dev s (AtSites f.sites) (subst (λ (l : List Site). AtSites l s) same at)
  sites_run (site ∷ rest) before e s at =
      let on : IsSite dev site = all_at (IsSite dev) f.sites before site rest e keeps.sites in
      let small : SiteFits site = all_at SiteFits f.sites before site rest e fits.sites in
      let numbers = after_last s.place 7 s.last (last_of site_numbers before) at.last (λ p. sym (ap (last_of site_numbers) (at.fresh p))) (cases_eq s.place 7) in
      let rising : IsTrue (is_before (last_of site_numbers before) (site_numbers site)) = rises_at site_numbers SiteIsBefore (λ u v h. h) f.sites before site rest e (some_numbers site) keeps.sites_rise in
      let after : IsTrue (comes_after s 7 (site_numbers site)) = subst (λ (l : List ℕ). IsTrue (is_before l (site_numbers site))) (sym numbers) rising in
      let fault : fault_of dev s (form.Fuse (site_numbers site) (Some site)) ≡ None
      = passes (may_follow s.place 7) kind.Order ((comes_after s 7 (site_numbers site), kind.Order) ∷ (is_site dev site, kind.Site) ∷ []) (follow_7 s.place at.low at.high)
      (passes (comes_after s 7 (site_numbers site)) kind.Order ((is_site dev site, kind.Site) ∷ []) after (passes (is_site dev site) kind.Site [] (site_then dev site on) refl)) in
      let next : FuseState = state_with s (form.Fuse (site_numbers site) (Some site)) in
      line_more dev s next (site_words site) (map site_words rest) (AtSites f.sites) (site_step s site small at.high fault)
      (sites_run rest (before ++ site ∷ []) (e ∙ sym (append_assoc before (site ∷ []) rest)) next
      (record {
        file = ap (λ (h : FuseFile). part_of h h.ins h.outs h.starts (h.sites ++ site ∷ [])) at.file;
        low = omega arith;
        high = omega arith;
        last = λ p. sym (last_push site_numbers before site);
        fresh = λ p. absurd (p refl);
      }))

  -- after the first line, and after the second
  abbrev second : FuseState
  second = state_with first_state form.Header

  abbrev third : FuseState
  third = state_with second (form.Device f.device)

  header_step : (fuse_rules dev).after first_state (joined header) ≡ Ok second
  header_step = refl

  pub device_fine : IsTrue (is_name f.device)
  device_fine = subst (λ (n : List ℕ). IsTrue (is_name n)) (sym keeps.device) (fine_device dev.name (device_name dev))

  same_device : bytes_eq f.device dev.name ≡ true
  same_device = (bytes_eq-Decides f.device dev.name).1 keeps.device

  device_step : (fuse_rules dev).after second (joined (codes "device" ∷ f.device ∷ [])) ≡ Ok third
  device_step =
      line_runs dev second (codes "device") (f.device ∷ []) (form.Device f.device) (named_without 32 (omega arith) (codes "device") f.device refl device_fine)
      (device_form f.device device_fine) (λ e8. omega (arith, e8)) (passes (bytes_eq f.device dev.name) kind.Device [] same_device refl)

  clock_run : (clock : Option (List ℕ)) → f.clock ≡ clock → To dev third (clock_lines clock) (AtIns dev f keeps fits [])
  clock_run None e = no_lines dev third (AtIns dev f keeps fits []) (record { file = ap (λ (c : Option (List ℕ)). record { device = f.device; clock = c; ins = []; outs = []; starts = []; sites = [] }) (sym e); low = omega arith; high = omega arith })
  clock_run (Some c) e =
      let apart = subst (λ (clock : Option (List ℕ)). IsApart clock (names_of f)) e keeps.clock in
      let fine = apart.0 in
      let next : FuseState = state_with third (form.Clock c) in
      line_more dev third next (codes "clock" ∷ c ∷ []) [] (AtIns dev f keeps fits [])
      (line_runs dev third (codes "clock") (c ∷ []) (form.Clock c) (named_without 32 (omega arith) (codes "clock") c refl fine) (clock_form c fine) (λ e8. omega (arith, e8)) refl)
      (no_lines dev next (AtIns dev f keeps fits []) (record { file = ap (λ (x : Option (List ℕ)). record { device = f.device; clock = x; ins = []; outs = []; starts = []; sites = [] }) (sym e); low = omega arith; high = omega arith }))

  end_run : (s : FuseState) → AtSites f.sites s → To dev s ((codes "end" ∷ []) ∷ []) AtEnd
  end_run s at =
      let next : FuseState = state_with s form.End in
      let high = at.high in
      line_more dev s next (codes "end" ∷ []) [] AtEnd
      (line_runs dev s (codes "end") [] form.End (code 32 (omega arith) (codes "end") refl, tt) refl (λ e8. omega (arith, e8, high)) (passes (may_follow s.place 8) kind.Order [] (follow_8 s.place at.low at.high) refl))
      (no_lines dev next AtEnd (record { file = at.file; place = refl }))

  to_outs : (s : FuseState) → AtIns dev f keeps fits f.ins s → AtOuts dev f keeps fits [] s
  to_outs s at = let high = at.high in record { file = at.file; low = at.low; high = omega (arith, high) }

  to_starts : (s : FuseState) → AtOuts dev f keeps fits f.outs s → AtStarts [] s
  to_starts s at = let high = at.high in record { file = at.file; low = at.low; high = omega (arith, high); last = λ p. absurd (omega (arith, high, p)); fresh = λ p. refl }

  to_sites : (s : FuseState) → AtStarts f.starts s → AtSites [] s
  to_sites s at = let high = at.high in record { file = at.file; low = at.low; high = omega (arith, high); last = λ p. absurd (omega (arith, high, p)); fresh = λ p. refl }

  pub all_run : To dev first_state (file_lines f) AtEnd
  all_run =
      let head : List (List (List ℕ)) = header ∷ (codes "device" ∷ f.device ∷ []) ∷ clock_lines f.clock in
      let ins = map (port_words (codes "in")) f.ins in
      let outs = map (port_words (codes "out")) f.outs in
      let starts = map start_words f.starts in
      let sites = map site_words f.sites in
      let a : To dev first_state head (AtIns dev f keeps fits [])
      = line_more dev first_state second header ((codes "device" ∷ f.device ∷ []) ∷ clock_lines f.clock) (AtIns dev f keeps fits []) header_step
      (line_more dev second third (codes "device" ∷ f.device ∷ []) (clock_lines f.clock) (AtIns dev f keeps fits []) device_step (clock_run f.clock refl)) in
      let b = and_on dev first_state head ins (AtIns dev f keeps fits []) (AtIns dev f keeps fits f.ins) a (λ t at. ins_run dev f keeps fits f.ins [] refl t at) in
      let c = and_on dev first_state (head ++ ins) outs (AtIns dev f keeps fits f.ins) (AtOuts dev f keeps fits f.outs) b (λ t at. outs_run dev f keeps fits f.outs [] refl t (to_outs t at)) in
      let d = and_on dev first_state (head ++ ins ++ outs) starts (AtOuts dev f keeps fits f.outs) (AtStarts f.starts) c (λ t at. starts_run f.starts [] refl t (to_starts t at)) in
      let e = and_on dev first_state (head ++ ins ++ outs ++ starts) sites (AtStarts f.starts) (AtSites f.sites) d (λ t at. sites_run f.sites [] refl t (to_sites t at)) in
      and_on dev first_state (head ++ ins ++ outs ++ starts ++ sites) ((codes "end" ∷ []) ∷ []) (AtSites f.sites) AtEnd e end_run
