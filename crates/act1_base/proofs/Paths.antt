-- Paths along links: joining is an equivalence, and what the two ends of each link share is shared by all that is joined.
use Rattle.std.proofs.Common.{◌≡◌, List, [], ◌∷◌, ◌++◌, refl, sym, ap, subst, ◌∙◌, inl, inr, Contains}
use Rattle.act1_base.specs.Joined.{Linked, Leads, Joined}

module _ {V : Type 0} (links : List (V × V)) where
  pub joined_here : (a : V) → Joined links a a
  joined_here a = record { path = []; leads = refl }

  pub joined_by : (a b : V) → Linked links a b → Joined links a b
  joined_by a b h = record { path = b ∷ []; leads = (h, refl) }

  leads_on : (a b c : V) (path rest : List V) → Leads links a path b → Leads links b rest c → Leads links a (path ++ rest) c
  leads_on a b c [] rest h k = subst (λ (v : V). Leads links v rest c) (sym h) k
  leads_on a b c (d ∷ path) rest h k = (h.0, leads_on d b c path rest h.1 k)

  pub joined_on : (a b c : V) → Joined links a b → Joined links b c → Joined links a c
  joined_on a b c h k = record { path = h.path ++ k.path; leads = leads_on a b c h.path k.path h.leads k.leads }

  linked_back : (a b : V) → Linked links a b → Linked links b a
  linked_back a b (inl h) = inr h
  linked_back a b (inr h) = inl h

  leads_back : (a b : V) (path : List V) → Leads links a path b → Joined links b a
  leads_back a b [] h = record { path = []; leads = sym h }
  leads_back a b (c ∷ path) h = joined_on b c a (leads_back c b path h.1) (joined_by c a (linked_back a c h.0))

  pub joined_back : (a b : V) → Joined links a b → Joined links b a
  joined_back a b h = leads_back a b h.path h.leads

-- an owner that the two ends of each link share is shared by all that is joined
module _ {V O : Type 0} (owner : V → O) (links : List (V × V)) (kept : (a b : V) → Contains links (a, b) → owner a ≡ owner b) where
  linked_owner : (a b : V) → Linked links a b → owner a ≡ owner b
  linked_owner a b (inl h) = kept a b h
  linked_owner a b (inr h) = sym (kept b a h)

  leads_owner : (a b : V) (path : List V) → Leads links a path b → owner a ≡ owner b
  leads_owner a b [] h = ap owner h
  leads_owner a b (c ∷ path) h = linked_owner a c h.0 ∙ leads_owner c b path h.1

  pub joined_owner : (a b : V) → Joined links a b → owner a ≡ owner b
  joined_owner a b h = leads_owner a b h.path h.leads
