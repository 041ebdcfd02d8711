-- The lines of inputs, outputs, starts and antifuses that keep the rules.
use Rattle.std.proofs.Common.{ℕ, ◌≡◌, ◌<◌, ◌≤◌, ◌==◌, nat_le, nat_lt, Bool, true, false, not, ◌&&◌, ◌||◌, IsTrue, List, [], ◌∷◌, ◌++◌, length, map, codes, refl, sym, ap, subst, ◌∙◌, append_assoc, arith}
use Rattle.std.specs.Fmt.{decimal}
use Rattle.std.proofs.lemmas.List.{append-nil, map-append}
use Rattle.std.proofs.lemmas.Bool.Decides.{nat_tests}
use Rattle.act1_base.specs.Names.{is_name}
use Rattle.act1_device.specs.declared.device.Device.{Device}
use Rattle.act1_fuses.specs.declared.form.FuseLine.TheVariants as form
use Rattle.act1_fuses.specs.declared.form.FuseState.{FuseState}
use Rattle.act1_fuses.specs.declared.fuses.FuseFile.{FuseFile}
use Rattle.act1_fuses.specs.declared.fuses.Port.{Port}
use Rattle.act1_fuses.specs.declared.fuses.StartAt.{StartAt}
use Rattle.act1_fuses.specs.Given.{is_among, is_clock}
use Rattle.act1_fuses.specs.Reading.{may_follow, is_free_pad, uses_pad}
use Rattle.act1_fuses.specs.Rules.{port_names, start_names, IsApart}
use Rattle.act1_fuses.specs.Text.{clock_lines, port_words, start_words, site_words}
use Rattle.act1_fuses.proofs.Pushes.{all_push, any_append, names_push, pads_push, apart_push, first_of_two, first_of_three, second_of_three}
use Rattle.act1_fuses.proofs.ReadStates.{names_of, sources_of, Different, OtherPads, AreNames, HasPads, IsGood, header, said_inside, neither, Next, follows_4, follows_5}

module _ {X : Type 0} where
  -- an element more in one of four lists, where those behind it are empty
  in_first : (a i o s f : List X) (x : X) → o ≡ [] → s ≡ [] → f ≡ [] → a ++ (i ++ x ∷ []) ++ o ++ s ++ f ≡ (a ++ i ++ o ++ s ++ f) ++ x ∷ []
  in_first a i o s f x eo es ef = rw (eo, es, ef) (simp (append-nil, append_assoc) refl)

  in_second : (a i o s f : List X) (x : X) → s ≡ [] → f ≡ [] → a ++ i ++ (o ++ x ∷ []) ++ s ++ f ≡ (a ++ i ++ o ++ s ++ f) ++ x ∷ []
  in_second a i o s f x es ef = rw (es, ef) (simp (append-nil, append_assoc) refl)

  pub in_third : (a i o s f : List X) (x : X) → f ≡ [] → a ++ i ++ o ++ (s ++ x ∷ []) ++ f ≡ (a ++ i ++ o ++ s ++ f) ++ x ∷ []
  in_third a i o s f x ef = rw ef (simp (append-nil, append_assoc) refl)

  pub in_fourth : (a i o s f : List X) (x : X) → a ++ i ++ o ++ s ++ (f ++ x ∷ []) ≡ (a ++ i ++ o ++ s ++ f) ++ x ∷ []
  in_fourth a i o s f x = sym (append_assoc (a ++ i ++ o ++ s) f (x ∷ []))

abbrev pub head_of : FuseFile → List (List (List ℕ))
head_of f = header ∷ (codes "device" ∷ f.device ∷ []) ∷ clock_lines f.clock

-- a free pad
free_pad : (a b c : Bool) → IsTrue (a && b && not c) → IsTrue a × IsTrue b × (c ≡ false)
free_pad true true true h = cc
free_pad true true false h = (refl, refl, refl)
free_pad true false c h = cc
free_pad false b c h = cc

low_pad : (pad : ℕ) → IsTrue (nat_le pad 65535) → pad ≤ 65535
low_pad pad h = grind (arith, nat_tests)

pub below_of : (a b : ℕ) → IsTrue (nat_lt a b) → a < b
below_of a b h = grind (arith, nat_tests)

pub or_no : (a b : Bool) → (a || b) ≡ false → (a ≡ false) × (b ≡ false)
or_no true b h = cc
or_no false b h = (refl, h)

abbrev pub port_of : ℕ → List ℕ → Port
port_of pad name = record { pad = pad; name = name }

module _ (dev : Device) (s : FuseState) (good : IsGood dev s) (pad : ℕ) (name : List ℕ) (fine : IsTrue (is_name name)) (free : IsTrue (is_free_pad dev s.file pad)) where
  parts : IsTrue (nat_le pad 65535) × IsTrue (nat_lt pad (length dev.pads)) × ((uses_pad pad s.file.ins || uses_pad pad s.file.outs) ≡ false)
  parts = free_pad (nat_le pad 65535) (nat_lt pad (length dev.pads)) (uses_pad pad s.file.ins || uses_pad pad s.file.outs) free

  pub pad_fits : pad ≤ 65535
  pad_fits = low_pad pad parts.0

  pads_kept : HasPads dev ((s.file.ins ++ s.file.outs) ++ port_of pad name ∷ [])
  pads_kept = all_push (λ (port : Port). port.pad < length dev.pads) (s.file.ins ++ s.file.outs) (port_of pad name) good.kept.pads (below_of pad (length dev.pads) parts.1)

  once_kept : OtherPads ((s.file.ins ++ s.file.outs) ++ port_of pad name ∷ [])
  once_kept =
      let no = or_no (uses_pad pad s.file.ins) (uses_pad pad s.file.outs) parts.2 in
      pads_push (port_of pad name) (s.file.ins ++ s.file.outs) good.kept.once (any_append (λ (port : Port). port.pad == pad) s.file.ins s.file.outs no.0 no.1)

  names_kept : AreNames (names_of s.file ++ name ∷ [])
  names_kept = all_push (λ (n : List ℕ). IsTrue (is_name n)) (names_of s.file) name good.kept.names fine

  pub next_in : IsTrue (may_follow s.place 4) → IsTrue (not (is_clock s.file.clock name || is_among name (port_names s.file.ins))) → Next dev s (form.In pad name) (codes "in" ∷ decimal pad ∷ name ∷ [])
  next_in h new =
      let at = follows_4 s.place h in
      let o = good.no_outs (omega arith) in
      let st = good.no_starts (omega arith) in
      let si = good.no_sites (omega arith) in
      let apart = neither (is_clock s.file.clock name) (is_among name (port_names s.file.ins)) new in
      let more = map-append (λ (port : Port). port.name) s.file.ins (port_of pad name ∷ []) in
      let ports : (s.file.ins ++ port_of pad name ∷ []) ++ s.file.outs ≡ (s.file.ins ++ s.file.outs) ++ port_of pad name ∷ [] = first_of_two s.file.ins s.file.outs (port_of pad name) o in
      let names : port_names (s.file.ins ++ port_of pad name ∷ []) ++ port_names s.file.outs ++ start_names s.file.starts ≡ names_of s.file ++ name ∷ []
      = ap (λ (l : List (List ℕ)). l ++ port_names s.file.outs ++ start_names s.file.starts) more
      ∙ first_of_three (port_names s.file.ins) (port_names s.file.outs) (start_names s.file.starts) name (ap port_names o) (ap start_names st) in
      let sources : port_names (s.file.ins ++ port_of pad name ∷ []) ++ start_names s.file.starts ≡ sources_of s.file ++ name ∷ []
      = ap (λ (l : List (List ℕ)). l ++ start_names s.file.starts) more ∙ first_of_two (port_names s.file.ins) (start_names s.file.starts) name (ap start_names st) in
      let none : is_among name (start_names s.file.starts) ≡ false = ap (λ (l : List StartAt). is_among name (start_names l)) st in (
        record {
          kept = record {
            names = subst AreNames (sym names) names_kept;
            inputs = subst Different (sym sources) (names_push name (sources_of s.file) good.kept.inputs (any_append _ (port_names s.file.ins) (start_names s.file.starts) apart.1 none));
            outputs = good.kept.outputs;
            clock = subst (IsApart s.file.clock) (sym names) (apart_push s.file.clock (names_of s.file) name good.kept.clock apart.0);
            pads = subst (HasPads dev) (sym ports) pads_kept;
            once = subst OtherPads (sym ports) once_kept;
            starts = good.kept.starts;
            spots_rise = good.kept.spots_rise;
            sites = good.kept.sites;
            sites_rise = good.kept.sites_rise;
          };
          device = λ p. good.device (omega arith);
          no_clock = λ p. absurd (omega arith);
          no_ins = λ p. absurd (omega arith);
          no_outs = λ p. o;
          no_starts = λ p. st;
          no_sites = λ p. si;
          start_last = λ p. absurd (omega arith);
          site_last = λ p. absurd (omega arith);
        },
        ap (λ (l : List (List (List ℕ))). head_of s.file ++ l ++ map (port_words (codes "out")) s.file.outs ++ map start_words s.file.starts ++ map site_words s.file.sites) (map-append (port_words (codes "in")) s.file.ins (port_of pad name ∷ []))
            ∙ in_first (head_of s.file) (map (port_words (codes "in")) s.file.ins) (map (port_words (codes "out")) s.file.outs) (map start_words s.file.starts) (map site_words s.file.sites) (port_words (codes "in") (port_of pad name))
            (ap (map (port_words (codes "out"))) o) (ap (map start_words) st) (ap (map site_words) si)
            ∙ sym (ap (λ (lines : List (List (List ℕ))). lines ++ port_words (codes "in") (port_of pad name) ∷ []) (said_inside s.place s.file at.0 (omega arith))),
      )

  pub next_out : IsTrue (may_follow s.place 5) → IsTrue (not (is_clock s.file.clock name || is_among name (port_names s.file.outs))) → Next dev s (form.Out pad name) (codes "out" ∷ decimal pad ∷ name ∷ [])
  next_out h new =
      let at = follows_5 s.place h in
      let st = good.no_starts (omega arith) in
      let si = good.no_sites (omega arith) in
      let apart = neither (is_clock s.file.clock name) (is_among name (port_names s.file.outs)) new in
      let more = map-append (λ (port : Port). port.name) s.file.outs (port_of pad name ∷ []) in
      let ports : s.file.ins ++ (s.file.outs ++ port_of pad name ∷ []) ≡ (s.file.ins ++ s.file.outs) ++ port_of pad name ∷ [] = sym (append_assoc s.file.ins s.file.outs (port_of pad name ∷ [])) in
      let names : port_names s.file.ins ++ port_names (s.file.outs ++ port_of pad name ∷ []) ++ start_names s.file.starts ≡ names_of s.file ++ name ∷ []
      = ap (λ (l : List (List ℕ)). port_names s.file.ins ++ l ++ start_names s.file.starts) more
      ∙ second_of_three (port_names s.file.ins) (port_names s.file.outs) (start_names s.file.starts) name (ap start_names st) in (
        record {
          kept = record {
            names = subst AreNames (sym names) names_kept;
            inputs = good.kept.inputs;
            outputs = subst Different (sym more) (names_push name (port_names s.file.outs) good.kept.outputs apart.1);
            clock = subst (IsApart s.file.clock) (sym names) (apart_push s.file.clock (names_of s.file) name good.kept.clock apart.0);
            pads = subst (HasPads dev) (sym ports) pads_kept;
            once = subst OtherPads (sym ports) once_kept;
            starts = good.kept.starts;
            spots_rise = good.kept.spots_rise;
            sites = good.kept.sites;
            sites_rise = good.kept.sites_rise;
          };
          device = λ p. good.device (omega arith);
          no_clock = λ p. absurd (omega arith);
          no_ins = λ p. absurd (omega arith);
          no_outs = λ p. absurd (omega arith);
          no_starts = λ p. st;
          no_sites = λ p. si;
          start_last = λ p. absurd (omega arith);
          site_last = λ p. absurd (omega arith);
        },
        ap (λ (l : List (List (List ℕ))). head_of s.file ++ map (port_words (codes "in")) s.file.ins ++ l ++ map start_words s.file.starts ++ map site_words s.file.sites) (map-append (port_words (codes "out")) s.file.outs (port_of pad name ∷ []))
            ∙ in_second (head_of s.file) (map (port_words (codes "in")) s.file.ins) (map (port_words (codes "out")) s.file.outs) (map start_words s.file.starts) (map site_words s.file.sites) (port_words (codes "out") (port_of pad name))
            (ap (map start_words) st) (ap (map site_words) si)
            ∙ sym (ap (λ (lines : List (List (List ℕ))). lines ++ port_words (codes "out") (port_of pad name) ∷ []) (said_inside s.place s.file at.0 (omega arith))),
      )
