-- Where each item that a publication publishes is, from the decision to the Commit: known in its leaf's list, or still to be
-- found, moved or placed. Commit leaves the owner knowing each of them in its leaf.
use Rattle.std.proofs.Common.{◌≡◌, ℕ, zero, suc, ◌<◌, ◌⊎◌, inl, inr, ⊎_elim, List, [], ◌∷◌, ◌++◌, map, sym, ap, ◌∙◌, subst}
use Rattle.std.specs.Prelude.{IsTrue, slice_index_or}
use Rattle.std.proofs.lemmas.Option.{none-some, same_Some}
use Rattle.cube_math.specs.Points.{PointValue}
use Rattle.cube_math.specs.Cubes.{contains}
use Rattle.list_machine.specs.Facts.{IsAt, claimed_chain, owned_chain, HasChunk}
use Rattle.list_machine.specs.Machine.{State, IsSound}
use Rattle.list_machine.specs.Steps.{opening_leaf}
use Rattle.list_machine.specs.declared.views.Fact.{Fact}
use Rattle.list_machine.specs.declared.views.Fact.TheVariants.{Item}
use Rattle.list_machine.specs.declared.views.Leaf.{Leaf}
use Rattle.sim_world.proofs.Members.{in_left, in_right, in_map_back}
use Rattle.list_machine.specs.Moves.{leaf_in}
use Rattle.sim_world.specs.Publications.{row_now}
use Rattle.sim_world.specs.Stores.{IsIn, Covers}
use Rattle.sim_world.specs.Versions.{LeafRow, WorldVersion, chunks_of, published_items}
use Rattle.sim_world.specs.Whereabouts.{Knows, Where, known, mine, waits, moving, unswept}

-- facts of one list are among those of another
abbrev pub AllIn : List Fact → List Fact → Type 0
AllIn fs gs = (f : Fact) → IsIn fs f → IsIn gs f

pub one_more : (f : Fact) (fs : List Fact) → AllIn fs (f ∷ fs)
one_more f fs g p = (suc p.0, p.1)

knows_more : (fs gs : List Fact) (l x : ℕ) → AllIn fs gs → Knows fs l x → Knows gs l x
knows_more fs gs l x more p = (p.0, p.1, more (Item l p.0 p.1 x) p.2)

-- the owner learns: by a shut, a mark, a placing
pub learns : (o o' g : List Fact) (to x : ℕ) (moves late ls : List ℕ) → AllIn o o' → Where o g to moves late ls x → Where o' g to moves late ls x
learns o o' g to x moves late ls more (known p) = known (knows_more o o' to x more p)
learns o o' g to x moves late ls more (mine p) = mine p
learns o o' g to x moves late ls more (waits p) = waits p
learns o o' g to x moves late ls more (moving p) = moving p
learns o o' g to x moves late ls more (unswept l p q) = unswept l p (⊎_elim (λ k. inl (knows_more o o' l x more k)) (λ k. inr k) q)

-- the first list is swept: what somebody knows to be in it was found, and is to be moved
pub swept : (o g : List Fact) (to x l : ℕ) (found late ls : List ℕ) → (Knows o l x ⊎ Knows g l x → IsIn found x) → Where o g to [] late (l ∷ ls) x
    → Where o g to found late ls x
swept o g to x l found late ls all (known p) = known p
swept o g to x l found late ls all (mine p) = mine p
swept o g to x l found late ls all (waits p) = waits p
swept o g to x l found late ls all (moving p) = absurd (none-some x p.1)
swept o g to x l found late ls all (unswept h (zero, p) q) = moving (all (subst (λ (z : ℕ). Knows o z x ⊎ Knows g z x) (sym (same_Some l h p)) q))
swept o g to x l found late ls all (unswept h (suc k, p) q) = unswept h (k, p) q

-- the first item found is filed in its list
pub moved : (o g : List Fact) (to x y : ℕ) (moves late ls : List ℕ) → (y ≡ x → Knows o to x) → Where o g to (y ∷ moves) late ls x → Where o g to moves late ls x
moved o g to x y moves late ls filed (known p) = known p
moved o g to x y moves late ls filed (mine p) = mine p
moved o g to x y moves late ls filed (waits p) = waits p
moved o g to x y moves late ls filed (moving (zero, p)) = known (filed (same_Some y x p))
moved o g to x y moves late ls filed (moving (suc k, p)) = moving (k, p)
moved o g to x y moves late ls filed (unswept l p q) = unswept l p q

-- the first late item is filed in its list
pub placed : (o g : List Fact) (to x y : ℕ) (late : List ℕ) → (y ≡ x → Knows o to x) → Where o g to [] (y ∷ late) [] x → Where o g to [] late [] x
placed o g to x y late filed (known p) = known p
placed o g to x y late filed (mine p) = mine p
placed o g to x y late filed (waits (zero, p)) = known (filed (same_Some y x p))
placed o g to x y late filed (waits (suc k, p)) = waits (k, p)
placed o g to x y late filed (moving p) = absurd (none-some x p.1)
placed o g to x y late filed (unswept l p q) = absurd (none-some l p.1)

-- and with the filing's facts the owner knows all
pub joined : (o g : List Fact) (to x : ℕ) → Where o g to [] [] [] x → Knows (g ++ o) to x
joined o g to x (known p) = knows_more o (g ++ o) to x (λ f q. in_right g o f q) p
joined o g to x (mine p) = knows_more g (g ++ o) to x (λ f q. in_left g o f q) p
joined o g to x (waits p) = absurd (none-some x p.1)
joined o g to x (moving p) = absurd (none-some x p.1)
joined o g to x (unswept l p q) = absurd (none-some l p.1)

-- ---- chunks

in_chains : (a : Leaf) (c : ℕ) → HasChunk a c → IsIn (a.claimed ++ a.owned) c
in_chains a c (claimed_chain, r, here) = in_left a.claimed a.owned c (r, here)
in_chains a c (owned_chain, r, here) = in_right a.claimed a.owned c (r, here)

pub get_at : {X : Type 0} (xs : List X) (k : ℕ) (x d : X) → IsAt xs k x → slice_index_or xs k d ≡ x
get_at [] k x d p = absurd (none-some x p)
get_at (y ∷ ys) zero x d p = same_Some y x p
get_at (y ∷ ys) (suc k) x d p = get_at ys k x d p

-- what the owner knows to be in a list is in its chains
pub in_list : (s : State) (l x : ℕ) → IsSound s → Knows s.owner.facts l x
    → (c : ℕ) × (k : ℕ) × IsIn s.owner.facts (Item l c k x) × IsIn ((leaf_in s l).claimed ++ (leaf_in s l).owned) c × (k < 256)
in_list s l x sound (c, k, knows) =
    let t = sound.known.owner knows.0 (Item l c k x) knows.1 in
    let inside : HasChunk t.0 c × (k < 256) = ⊎_elim (λ z. z.1) (λ e. absurd (cc)) t.2.1 in
    let same : leaf_in s l ≡ t.0 = get_at s.owner.book.leaves l t.0 opening_leaf t.1 in
    (c, k, knows, subst (λ (a : Leaf). IsIn (a.claimed ++ a.owned) c) (sym same) (in_chains t.0 c inside.0), inside.1)

-- the version that a Commit makes: the leaves with the chains as they are
pub commit_covers : (s : State) (rows : List LeafRow) (v : WorldVersion) → IsSound s → v.leaves ≡ map (row_now s) rows
    → ((x : ℕ) (p : PointValue) (r : LeafRow) → IsIn (published_items v) (x, p) → IsIn rows r → IsTrue (contains r.cube p) → Knows s.owner.facts r.list x)
    → Covers v s.owner.facts
commit_covers s rows v sound leaves all x p r item leaf lies =
    let b = in_map_back (row_now s) rows r (subst (λ (rs : List LeafRow). IsIn rs r) leaves leaf) in
    let inside : IsTrue (contains b.0.cube p) = ap (λ (q : LeafRow). contains q.cube p) b.2 ∙ lies in
    subst (λ (q : LeafRow). (c : ℕ) × (k : ℕ) × IsIn s.owner.facts (Item q.list c k x) × IsIn (chunks_of q) c × (k < 256)) b.2
    (in_list s b.0.list x sound (all x p b.0 item b.1 inside))
