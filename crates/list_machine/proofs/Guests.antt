-- A guest changes, or the owner learns or forgets, and the words stay.
use Rattle.std.proofs.Common.{◌≡◌, ℕ, zero, suc, ◌≤◌, ◌≢◌, true, false, List, ◌∷◌, set, sym, ap, ◌∙◌, subst, arith}
use Rattle.std.proofs.lemmas.Option.{same_Some}
use Rattle.list_machine.specs.State.{Words}
use Rattle.list_machine.specs.Grants.{granted_in}
use Rattle.list_machine.specs.Facts.{IsAt, list_of}
use Rattle.list_machine.specs.Rule.{OfLeaf, IsStated, IsSeat, IsOwned, AreKnown, AreCounted, counts}
use Rattle.list_machine.specs.declared.views.Fact.{Fact}
use Rattle.list_machine.specs.declared.views.Leaf.{Leaf}
use Rattle.list_machine.specs.declared.views.Unfiled.TheVariants.{Place}
use Rattle.list_machine.specs.declared.views.Unfiled.{Unfiled}
use Rattle.list_machine.specs.Steps.{guest_with}
use Rattle.list_machine.specs.declared.views.Guest.{Guest}
use Rattle.list_machine.proofs.Lists.{at_set, each_set, total_set, total_same}

pub guest_known : (w : Words) (leaves : List Leaf) (facts : List Fact) (guests : List Guest) (i : ℕ) (v v' : Guest) → AreKnown w leaves facts guests → IsAt guests i v → IsSeat w leaves v'
    → ((l : ℕ) → granted_in l v'.grants ≤ granted_in l v.grants) → ((j l k : ℕ) (u : Guest) → j ≢ i → IsAt guests j u → v'.claim ≡ Place l k → u.claim ≡ Place l k → ⊥) → AreKnown w leaves facts (set guests i v')
guest_known w leaves facts guests i v v' s at seat fewer mine = record {
  seats = each_set (λ _ (u : Guest). IsSeat w leaves u) guests i v' (λ j u _ p. s.seats j u p) seat;
  owner = s.owner;
  apart = λ j h l k u x p q c d. at_set guests i j v' u (j ≡ h) p
      (λ e is. at_set guests i h v' x (j ≡ h) q (λ e' _. e ∙ sym e') (λ ne old. absurd (mine h l k x ne old (ap (λ (y : Guest). y.claim) is ∙ c) d)))
      (λ ne old. at_set guests i h v' x (j ≡ h) q (λ _ is. absurd (mine j l k u ne old (ap (λ (y : Guest). y.claim) is ∙ d) c)) (λ _ old'. s.apart j h l k u x old old' c d));
  granted = λ l a p. let sum = total_set (λ (u : Guest). granted_in l u.grants) guests i v v' at in let old = s.granted l a p in let less = fewer l in omega arith;
}

pub guest_counted : (shuts cleared : ℕ) (out : List ℕ) (guests : List Guest) (i : ℕ) (v v' : Guest) → AreCounted shuts cleared out guests → IsAt guests i v → v'.out ≡ v.out → v'.birth ≡ v.birth → AreCounted shuts cleared out (set guests i v')
guest_counted shuts cleared out guests i v v' s at same same' = record {
  births = λ b. total_same (counts b) guests i v v' at (counted b) ∙ s.births b;
  numbers = s.numbers;
  born = each_set (λ _ (u : Guest). u.out ≡ true → (cleared ≤ u.birth) × (u.birth ≤ shuts)) guests i v' (λ j u _ p. s.born j u p) (λ is. let y = s.born i v at (sym same ∙ is) in (let z = y.0 in omega arith, let z = y.1 in omega arith));
} where
  counted : (b : ℕ) → counts b v' ≡ counts b v
  counted b = cc

-- one more fact
pub more_facts : {F : Fact → Type 0} (f : Fact) (fs : List Fact) → F f → ((k : ℕ) (g : Fact) → IsAt fs k g → F g) → (k : ℕ) (g : Fact) → IsAt (f ∷ fs) k g → F g
more_facts {F} f fs new old zero g e = subst F (same_Some f g e) new
more_facts f fs new old (suc k) g e = old k g e

pub owner_knows : (w : Words) (leaves : List Leaf) (facts facts' : List Fact) (guests : List Guest) → AreKnown w leaves facts guests → ((k : ℕ) (f : Fact) → IsAt facts' k f → OfLeaf leaves (list_of f) (IsOwned w f)) → AreKnown w leaves facts' guests
owner_knows w leaves facts facts' guests s known = record { seats = s.seats; owner = known; apart = s.apart; granted = s.granted }

pub owner_learns : (w : Words) (leaves : List Leaf) (facts : List Fact) (guests : List Guest) (f : Fact) → AreKnown w leaves facts guests → OfLeaf leaves (list_of f) (IsOwned w f) → AreKnown w leaves (f ∷ facts) guests
owner_learns w leaves facts guests f s new = owner_knows w leaves facts (f ∷ facts) guests s (more_facts {F = λ g. OfLeaf leaves (list_of g) (IsOwned w g)} f facts new s.owner)

-- a guest that is out knows these facts now, and has kept or ended its claim
pub guest_learns : (w : Words) (leaves : List Leaf) (facts : List Fact) (guests : List Guest) (i : ℕ) (v : Guest) (c : Unfiled) (fs : List Fact) → AreKnown w leaves facts guests → IsAt guests i v → v.out ≡ true
    → ((h k : ℕ) → c ≡ Place h k → v.claim ≡ Place h k) → ((k : ℕ) (f : Fact) → IsAt fs k f → OfLeaf leaves (list_of f) (IsStated w v.birth f)) → AreKnown w leaves facts (set guests i (guest_with v c fs))
guest_learns w leaves facts guests i v c fs s at out keep known = let mine = s.seats i v at in guest_known w leaves facts guests i v (guest_with v c fs) s at
    (record { facts = known; grants = mine.grants; claim = λ h k e. mine.claim h k (keep h k e); spent = λ is. let e : true ≡ false = sym out ∙ is in absurd (cc) })
    (λ l. omega arith) (λ j l k u ne p e e'. ne (s.apart j i l k u v p at e' (keep l k e)))
