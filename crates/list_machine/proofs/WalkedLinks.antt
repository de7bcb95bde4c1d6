-- A filer walks at most as many links as there are chunks.
use Rattle.std.proofs.Common.{◌≡◌, ℕ, zero, suc, ◌<◌, ◌≤◌, Bool, true, false, List, [], ◌∷◌, map, length, sym, refl, ap, ◌∙◌, subst, arith, eqb, ne_eqb}
use Rattle.std.proofs.lemmas.List.{length-map}
use Rattle.std.specs.Prelude.{Some, ◌||◌}
use Rattle.std.specs.List.{IsDistinct, AllByRecursion, list_any}
use Rattle.std.proofs.lemmas.Bool.{eqb-true}
use Rattle.std.proofs.lemmas.Option.{none-some, same_Some}
use Rattle.std.proofs.lemmas.Map.Steps.{length-le_from_distinct_below}
use Rattle.list_machine.specs.State.{Words}
use Rattle.list_machine.specs.Facts.{IsAt, claimed_chain}
use Rattle.list_machine.specs.Rule.{Sound}
use Rattle.list_machine.specs.Walks.{WalkedLink, IsWalk}
use Rattle.list_machine.specs.declared.views.Fact.TheVariants.{Link}
use Rattle.list_machine.specs.declared.views.Owner.{Owner}
use Rattle.list_machine.specs.declared.views.Guest.{Guest}

-- two links that a guest knows lead to one chunk only if they lead to one place
pub links_apart : (w : Words) (o : Owner) (guests : List Guest) (j k h : ℕ) (v : Guest) → Sound w o guests → IsAt guests j v → (l r g q c : ℕ) (from at : _) → IsAt v.facts k (Link l from r c) → IsAt v.facts h (Link g at q c) → (l ≡ g) × (r ≡ q)
links_apart w o guests j k h v s here l r g q c from at p p' =
    let mine = s.known.seats j v here in
    let x = mine.facts k (Link l from r c) p in
    let y = mine.facts h (Link g at q c) p' in
    let t = s.shape.lists.once l g x.0 y.0 claimed_chain claimed_chain r q c x.1 y.1 x.2.within.1 y.2.within.1 in
    (t.0, t.2)

-- each item of a list that is read by place
all_from_at : (P : ℕ → Type 0) (xs : List ℕ) → ((k x : ℕ) → IsAt xs k x → P x) → AllByRecursion P xs
all_from_at P [] h = tt
all_from_at P (x ∷ xs) h = (h 0 x refl, all_from_at P xs (λ k y p. h (suc k) y p))

distinct_from_at : (xs : List ℕ) → ((k h x : ℕ) → IsAt xs k x → IsAt xs h x → k ≡ h) → IsDistinct eqb xs
unfolding IsDistinct
distinct_from_at [] apart = tt
distinct_from_at (x ∷ xs) apart = (
  all_from_at (λ y. eqb x y ≡ false) xs (λ k y p. ne_eqb x y (λ e. let z = apart 0 (suc k) y (ap Some e) p in absurd (omega arith))),
  distinct_from_at xs (λ k h y p q. let z = apart (suc k) (suc h) y p q in omega arith),
)

any_below : (xs : List ℕ) (n q : ℕ) → ((k x : ℕ) → IsAt xs k x → x < n) → list_any (eqb q) xs ≡ true → q < n
any_below [] n q below e = absurd (cc)
any_below (x ∷ xs) n q below e = by (eqb q x) refl e (λ e. any_below xs n q (λ k y p. below (suc k) y p) e) where
  by : (b : Bool) → eqb q x ≡ b → (b || list_any (eqb q) xs) ≡ true → (list_any (eqb q) xs ≡ true → q < n) → q < n
  by true is e later = let same = eqb-true q x is in let lt = below 0 x refl in omega arith
  by false is e later = later e

at_map : (xs : List WalkedLink) (k c : ℕ) → IsAt (map (λ (x : WalkedLink). x.chunk) xs) k c → (x : WalkedLink) × IsAt xs k x × (x.chunk ≡ c)
at_map [] k c p = absurd (none-some c p)
at_map (x ∷ xs) zero c p = (x, refl, same_Some x.chunk c p)
at_map (x ∷ xs) (suc k) c p = at_map xs k c p

pub walk_is_short : (w : Words) (o : Owner) (guests : List Guest) (j chunks : ℕ) (v : Guest) (walked : List WalkedLink) → Sound w o guests → IsAt guests j v → IsWalk v chunks walked → length walked ≤ chunks
walk_is_short w o guests j chunks v walked s at walk =
    let cs : List ℕ = map (λ (x : WalkedLink). x.chunk) walked in
    let few : length cs ≤ chunks = length-le_from_distinct_below cs chunks
    (distinct_from_at cs (λ k h c p q. let x = at_map walked k c p in let y = at_map walked h c q in let f = walk.known k x.0 x.1 in let g = walk.known h y.0 y.1 in
    let same : y.0.chunk ≡ x.0.chunk = y.2 ∙ sym x.2 in
    let t = links_apart w o guests j f.0 g.0 v s at x.0.list x.0.rank y.0.list y.0.rank x.0.chunk f.1 g.1 f.2 (subst (λ (d : ℕ). IsAt v.facts g.0 (Link y.0.list g.1 y.0.rank d)) same g.2) in
    walk.apart k h x.0 y.0 x.1 y.1 t.0 t.1))
    (λ q e. any_below cs chunks q (λ k c p. let x = at_map walked k c p in let lt = walk.small k x.0 x.1 in let e = x.2 in omega arith) e) in
    let same : length cs ≡ length walked = length-map walked (λ (x : WalkedLink). x.chunk) in
    omega arith
