-- Rows of one store and rows of another lead the same ways, where the children at their places are the same, and those of what they reach. Assumes nothing.
use Rattle.std.specs.Prelude.{Some}
use Prim.Native.Nat.{ℕ, ◌<◌}
use mathlib.Core.Path.{◌≡◌, sym, ap, subst, ◌∙◌}
use mathlib.Core.Bool.{Bool, true}
use borrow.Author.Tests.{eq-eqb, eqb-true}
use Rattle.store_rules.specs.Store.{Store, link_at, is_offset, child_at, kind_of, parent_of, position_of, child_of}
use Rattle.store_rules.specs.Reach.{Reach}
use Rattle.store_rules.proofs.Sound.{Fits}
use Rattle.store_rules.proofs.Lookups.{child_row}
use Rattle.store_rules.proofs.RowChild.{row_child_lem, offset_child}
use Rattle.store_rules.proofs.Shaped.{of_offset, of_parent}
use Rattle.store_rules.proofs.SameReach.{Seed, Leads, SameWays}

-- a test of rows by kind, parent and position
abbrev pub Places : Type 0
Places = ℕ → ℕ → ℕ → Bool

-- which offsets alone pass
abbrev pub OfOffsets : Places → Type 0
OfOffsets places = (n p q : ℕ) → places n p q ≡ true → n ≡ 0

-- the rows of s that stand at such places
abbrev pub rows_at : Store → Places → ℕ → Bool
rows_at s places k = places (kind_of s k) (parent_of s k) (position_of s k)

-- at one of the places of s an offset leads to c
abbrev pub LeadsTo : Store → Places → ℕ → Type 0
LeadsTo s places c = (p : ℕ) × (q : ℕ) × (places 0 p q ≡ true) × (child_at s p q ≡ Some c)

module _ (s : Store) (f : Fits s) where
  -- the row is found at its place
  row_found : (k c : ℕ) → k < s.link_count → is_offset (link_at s k) ≡ true → child_of s k ≡ c → child_at s (parent_of s k) (position_of s k) ≡ Some c
  row_found k c l o e = row_child_lem s f k l o ∙ ap Some e

  seed_leads : (places : Places) → OfOffsets places → (c : ℕ) → Seed s (rows_at s places) c → LeadsTo s places c
  seed_leads places only c (k, l, a, e) =
      let z = only (kind_of s k) (parent_of s k) (position_of s k) a in
      (parent_of s k, position_of s k, subst (λ (n : ℕ). places n (parent_of s k) (position_of s k) ≡ true) z a, row_found k c l (eq-eqb (kind_of s k) 0 z) e)

  leads_seed : (places : Places) (c : ℕ) → LeadsTo s places c → Seed s (rows_at s places) c
  leads_seed places c (p, q, a, e) = let (k, l, x, y, z) = child_row s p q c e in
      let kind = eqb-true (kind_of s k) 0 (of_offset p (link_at s k) x) in
      (k, l, (λ d. places (kind d) (of_parent p (link_at s k) x d) (y d)) ∙ a, z)

  leads_child : (p c : ℕ) → Leads s p c → (q : ℕ) × (child_at s p q ≡ Some c)
  leads_child p c (k, l, a, e) = (position_of s k, offset_child s f k p l a ∙ ap Some e)

  child_leads : (p c : ℕ) → (q : ℕ) × (child_at s p q ≡ Some c) → Leads s p c
  child_leads p c (q, e) = let (k, l, x, y, z) = child_row s p q c e in (k, l, x, z)

pub same_children : {x y : Store} → Fits x → Fits y → (from then : Places) → OfOffsets from → OfOffsets then
    → ((c : ℕ) → LeadsTo x from c → LeadsTo y then c) → ((c : ℕ) → LeadsTo y then c → LeadsTo x from c)
    → ((p q : ℕ) → Reach x (rows_at x from) p → child_at y p q ≡ child_at x p q)
    → SameWays x y (rows_at x from) (rows_at y then)
same_children {x} {y} old new from then only only_then there back same =
    record {
      starts = λ c h. leads_seed y new then c (there c (seed_leads x old from only c h));
      started = λ c h. leads_seed x old from c (back c (seed_leads y new then only_then c h));
      goes = λ p c r h. let (q, e) = leads_child x old p c h in child_leads y new p c (q, same p q r ∙ e);
      went = λ p c r h. let (q, e) = leads_child y new p c h in child_leads x old p c (q, sym (same p q r) ∙ e);
    }
