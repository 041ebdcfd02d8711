-- One link more: what it joins was joined before, or goes through the link.
use Rattle.std.proofs.Common.{◌≡◌, ◌⊎◌, List, [], ◌∷◌, ◌++◌, sym, ap, subst, inl, inr, arith, Contains}
use Rattle.std.proofs.lemmas.List.Elements.{Contains-append_left, Contains-push, Contains-push_cases}
use Rattle.act1_base.specs.Joined.{Linked, Leads, Joined}
use Rattle.act1_base.proofs.Paths.{joined_here, joined_by, joined_on}

module _ {V : Type 0} where
  -- with no link each thing is joined to itself alone
  leads_nowhere : (a b : V) (path : List V) → Leads [] a path b → a ≡ b
  leads_nowhere a b [] h = h
  leads_nowhere a b (c ∷ path) (inl k, h) = absurd (omega (arith, k.1))
  leads_nowhere a b (c ∷ path) (inr k, h) = absurd (omega (arith, k.1))

  pub joined_by_none : (a b : V) → Joined [] a b → a ≡ b
  joined_by_none a b h = leads_nowhere a b h.path h.leads

module _ {V : Type 0} (links : List (V × V)) (a b : V) where
  abbrev pub with_link : List (V × V)
  with_link = links ++ (a, b) ∷ []

  linked_more : (x y : V) → Linked links x y → Linked with_link x y
  linked_more x y (inl h) = inl (Contains-append_left links ((a, b) ∷ []) (x, y) h)
  linked_more x y (inr h) = inr (Contains-append_left links ((a, b) ∷ []) (y, x) h)

  leads_more : (x y : V) (path : List V) → Leads links x path y → Leads with_link x path y
  leads_more x y [] h = h
  leads_more x y (c ∷ path) h = (linked_more x c h.0, leads_more c y path h.1)

  -- what was joined is joined
  pub joined_more : (x y : V) → Joined links x y → Joined with_link x y
  joined_more x y h = record { path = h.path; leads = leads_more x y h.path h.leads }

  -- the two ends of the link are joined
  pub link_joins : Joined with_link a b
  link_joins = joined_by with_link a b (inl (Contains-push links (a, b)))

  -- joined before, or through the link in one of its directions
  abbrev pub Through : V → V → Type 0
  Through x y = Joined links x y ⊎ ((Joined links x a × Joined links b y) ⊎ (Joined links x b × Joined links a y))

  through_from : (x c y : V) → Joined links x c → Through c y → Through x y
  through_from x c y h (inl k) = inl (joined_on links x c y h k)
  through_from x c y h (inr (inl k)) = inr (inl (joined_on links x c a h k.0, k.1))
  through_from x c y h (inr (inr k)) = inr (inr (joined_on links x c b h k.0, k.1))

  across : (y : V) → Through b y → Through a y
  across y (inl k) = inr (inl (joined_here links a, k))
  across y (inr (inl k)) = inr (inl (joined_here links a, k.1))
  across y (inr (inr k)) = inl k.1

  back_across : (y : V) → Through a y → Through b y
  back_across y (inl k) = inr (inr (joined_here links b, k))
  back_across y (inr (inl k)) = inl k.1
  back_across y (inr (inr k)) = inr (inr (joined_here links b, k.1))

  step : (x c y : V) → Contains links (x, c) ⊎ ◌≡◌ {A = V × V} (a, b) (x, c) → Through c y → Through x y
  step x c y (inl old) k = through_from x c y (joined_by links x c (inl old)) k
  step x c y (inr new) k =
      subst (λ (v : V). Through v y) (ap (λ (p : V × V). p.0) new) (across y (subst (λ (v : V). Through v y) (sym (ap (λ (p : V × V). p.1) new)) k))

  step_back : (x c y : V) → Contains links (c, x) ⊎ ◌≡◌ {A = V × V} (a, b) (c, x) → Through c y → Through x y
  step_back x c y (inl old) k = through_from x c y (joined_by links x c (inr old)) k
  step_back x c y (inr new) k =
      subst (λ (v : V). Through v y) (ap (λ (p : V × V). p.1) new) (back_across y (subst (λ (v : V). Through v y) (sym (ap (λ (p : V × V). p.0) new)) k))

  step_through : (x c y : V) → Linked with_link x c → Through c y → Through x y
  step_through x c y (inl h) k = step x c y (Contains-push_cases links (a, b) (x, c) h) k
  step_through x c y (inr h) k = step_back x c y (Contains-push_cases links (a, b) (c, x) h) k

  leads_through : (x y : V) (path : List V) → Leads with_link x path y → Through x y
  leads_through x y [] h = inl (record { path = []; leads = h })
  leads_through x y (c ∷ path) h = step_through x c y h.0 (leads_through c y path h.1)

  -- what is joined with the link was joined before, or goes through it
  pub joined_through : (x y : V) → Joined with_link x y → Through x y
  joined_through x y h = leads_through x y h.path h.leads
