-- What a sweep showed, item by item.
use Rattle.std.proofs.Common.{◌≡◌, ℕ, zero, suc, ◌+◌, ◌*◌, ◌/◌, ◌%◌, ◌<◌, inl, inr, List, [], ◌∷◌, length, get_or, Some, None, Option, ap, refl, subst, sym, take, ◌≤◌, ◌⊎◌, ◌∙◌, arith}
use Rattle.std.specs.List.{Contains, filter_map, slice_get}
use Rattle.std.proofs.lemmas.List.Elements.{Contains-append_cases, Contains-append_left, Contains-append_right}
use Rattle.std.proofs.lemmas.Option.{same_Some, slice_get-get_or, slice_get_within}
use Rattle.list_words.specs.Store.{AreMarks, IsFoundAt, IsInOneSlot, Row, StandOnce, Store, Stood, chunks_of, found_in, row}
use Rattle.list_words.specs.Store.IsFoundAt.{as_placed, by_mark}
use Rattle.list_words.proofs.Places.{contains_at, slice_get-behind, slice_get-joined, slice_get-more}

-- an item among those that marks found was found by one of them
marked_at : (marked : List (Option ℕ)) (x : ℕ) → Contains (filter_map (λ (y : Option ℕ). y) marked) x → (i : ℕ) × (slice_get marked i ≡ Some (Some x))
marked_at [] x inside = absurd (omega (arith, inside.1))
marked_at (None ∷ marked) x inside = let rest : (i : ℕ) × (slice_get marked i ≡ Some (Some x)) = marked_at marked x inside in (suc rest.0, rest.1)
marked_at (Some y ∷ marked) x inside = by (λ rest. marked_at marked x rest) inside.0 inside.1 inside.2
  where
    by : (Contains (filter_map (λ (z : Option ℕ). z) marked) x → (i : ℕ) × (slice_get marked i ≡ Some (Some x))) → (k : ℕ) → k < length (y ∷ filter_map (λ (z : Option ℕ). z) marked) → get_or (y ∷ filter_map (λ (z : Option ℕ). z) marked) k x ≡ x → (i : ℕ) × (slice_get (Some y ∷ marked) i ≡ Some (Some x))
    by later zero low is = (0, ap (λ z. let w : Option (Option ℕ) = Some (Some z) in w) is)
    by later (suc k) low is = let rest : (i : ℕ) × (slice_get marked i ≡ Some (Some x)) = later (k, omega arith, is) in (suc rest.0, rest.1)

-- and where a mark found an item, it is among them
mark_counts : (marked : List (Option ℕ)) (i x : ℕ) → slice_get marked i ≡ Some (Some x) → Contains (filter_map (λ (y : Option ℕ). y) marked) x
mark_counts [] i x at = absurd (cc)
mark_counts (Some y ∷ marked) zero x at = (0, omega arith, same_Some y x (same_Some (Some y) (Some x) at))
mark_counts (None ∷ marked) zero x at = let no : None ≡ Some x = same_Some None (Some x) at in absurd (cc)
mark_counts (None ∷ marked) (suc i) x at = mark_counts marked i x at
mark_counts (Some y ∷ marked) (suc i) x at = let rest : Contains (filter_map (λ (z : Option ℕ). z) marked) x = mark_counts marked i x at in (suc rest.0, omega (arith, rest.1), rest.2)

-- an item that a sweep found is known to stand in a chunk
pub found_stands : (known : ℕ → ℕ → Type 0) (claims : ℕ) (r : Row) → AreMarks (Stood known) claims r → (x : ℕ) → Contains (found_in r) x → (c : ℕ) × known c x
found_stands known claims r marks x inside = elim (Contains-append_cases (filter_map (λ (y : Option ℕ). y) r.marked) r.placed x inside) [
  | inl claimed ↦
      let at : (i : ℕ) × (slice_get r.marked i ≡ Some (Some x)) = marked_at r.marked x claimed in
      let shown : (c : ℕ) × (slice_get r.claimed (at.0 / 256) ≡ Some c) × Stood known c (at.0 % 256) (Some x) = marks.claimed at.0 (Some x) at.1 in
      (shown.0, shown.2 x refl)
  | inr placed ↦
      let at : slice_get r.placed placed.0 ≡ Some x = slice_get-get_or r.placed placed.0 x placed.1 ∙ ap Some placed.2 in
      let shown : (c : ℕ) × (slice_get r.owned (placed.0 / 256) ≡ Some c) × Stood known c (placed.0 % 256) (Some x) = marks.owned placed.0 x at in
      (shown.0, shown.2 x refl)
]

-- what is known of slots shows less of them too
pub marks_by : (shows shows' : ℕ → ℕ → Option ℕ → Type 0) → ((c k : ℕ) (y : Option ℕ) → shows c k y → shows' c k y) → (claims : ℕ) (r : Row) → AreMarks shows claims r → AreMarks shows' claims r
marks_by shows shows' by claims r marks = record {
  counted = marks.counted;
  claimed = λ i y at. let m : (c : ℕ) × (slice_get r.claimed (i / 256) ≡ Some c) × shows c (i % 256) y = marks.claimed i y at in (m.0, m.1, by m.0 (i % 256) y m.2);
  owned = λ i x at. let m : (c : ℕ) × (slice_get r.owned (i / 256) ≡ Some c) × shows c (i % 256) (Some x) = marks.owned i x at in (m.0, m.1, by m.0 (i % 256) (Some x) m.2);
}

-- an item that a sweep found in a slot is among those that it found
pub found_at_is_found : (r : Row) (c k x : ℕ) → IsFoundAt r c k x → Contains (found_in r) x
found_at_is_found r c k x (by_mark rank chunk mark) = Contains-append_left (filter_map (λ (y : Option ℕ). y) r.marked) r.placed x (mark_counts r.marked (256 * rank + k) x mark)
found_at_is_found r c k x (as_placed rank chunk placed) = Contains-append_right (filter_map (λ (y : Option ℕ). y) r.marked) r.placed x (contains_at r.placed (256 * rank + k) x placed)

-- what was found in a slot of the claimed chain, the mark of its place found: no chunk has two places
pub marked_where_filed : (s : Store) (l claims rank c k x : ℕ) → StandOnce s → length (row s l).marked ≡ claims → slice_get (row s l).claimed rank ≡ Some c → IsFoundAt (row s l) c k x
    → (256 * rank + k < claims) × (slice_get (row s l).marked (256 * rank + k) ≡ Some (Some x))
marked_where_filed s l claims rank c k x once count here found = by (row s l) (λ i j one other. (once l l i j c one other).1) count here found
  where
    by : (r : Row) → ((i j : ℕ) → slice_get (chunks_of r) i ≡ Some c → slice_get (chunks_of r) j ≡ Some c → i ≡ j) → length r.marked ≡ claims → slice_get r.claimed rank ≡ Some c → IsFoundAt r c k x
        → (256 * rank + k < claims) × (slice_get r.marked (256 * rank + k) ≡ Some (Some x))
    by r alone count here (by_mark q chunk mark) =
        let same : q ≡ rank = alone q rank (slice_get-more r.claimed r.owned q c chunk) (slice_get-more r.claimed r.owned rank c here) in
        let at : slice_get r.marked (256 * rank + k) ≡ Some (Some x) = subst (λ n. slice_get r.marked (256 * n + k) ≡ Some (Some x)) same mark in
        let low : 256 * rank + k < length r.marked = slice_get_within r.marked (256 * rank + k) (Some x) at in
        (omega arith, at)
    by r alone count here (as_placed q chunk placed) =
        let same : length r.claimed + q ≡ rank = alone (length r.claimed + q) rank (slice_get-behind r.claimed r.owned q c chunk) (slice_get-more r.claimed r.owned rank c here) in
        let low : rank < length r.claimed = slice_get_within r.claimed rank c here in absurd (omega arith)

-- the place of the mark that found an item, and how many items the marks before it found
mark_place : (marked : List (Option ℕ)) (i x : ℕ) → slice_get (filter_map (λ (y : Option ℕ). y) marked) i ≡ Some x → (p : ℕ) × (slice_get marked p ≡ Some (Some x)) × (i ≡ length (filter_map (λ (y : Option ℕ). y) (take p marked)))
mark_place [] i x at = absurd (cc)
mark_place (None ∷ marked) i x at =
    let rest : (p : ℕ) × (slice_get marked p ≡ Some (Some x)) × (i ≡ length (filter_map (λ (y : Option ℕ). y) (take p marked))) = mark_place marked i x at in (suc rest.0, rest.1, rest.2)
mark_place (Some y ∷ marked) zero x at = (0, ap (λ (z : Option ℕ). let w : Option (Option ℕ) = Some z in w) at, refl)
mark_place (Some y ∷ marked) (suc i) x at =
    let rest : (p : ℕ) × (slice_get marked p ≡ Some (Some x)) × (i ≡ length (filter_map (λ (z : Option ℕ). z) (take p marked))) = mark_place marked i x at in (suc rest.0, rest.1, ap suc rest.2)

-- an item that is known in one slot alone is found once
pub found_once : (shows : ℕ → ℕ → Option ℕ → Type 0) (claims : ℕ) (r : Row) (x : ℕ) → ((i j c : ℕ) → slice_get (chunks_of r) i ≡ Some c → slice_get (chunks_of r) j ≡ Some c → i ≡ j)
    → AreMarks shows claims r → IsInOneSlot shows x → (i j : ℕ) → slice_get (found_in r) i ≡ Some x → slice_get (found_in r) j ≡ Some x → i ≡ j
found_once shows claims r x once marks alone i j at also = by (slice_get-joined claimed r.placed i x at) (slice_get-joined claimed r.placed j x also)
  where
    claimed : List ℕ
    claimed = filter_map (λ (y : Option ℕ). y) r.marked

    Place : ℕ → Type 0
    Place n = (slice_get claimed n ≡ Some x) ⊎ ((m : ℕ) × (n ≡ length claimed + m) × (slice_get r.placed m ≡ Some x))

    Marked : ℕ → Type 0
    Marked p = (c : ℕ) × (slice_get r.claimed (p / 256) ≡ Some c) × shows c (p % 256) (Some x)

    Placed : ℕ → Type 0
    Placed p = (c : ℕ) × (slice_get r.owned (p / 256) ≡ Some c) × shows c (p % 256) (Some x)

    never : (i j : ℕ) → slice_get claimed i ≡ Some x → (m : ℕ) × (j ≡ length claimed + m) × (slice_get r.placed m ≡ Some x) → ⊥
    never i j a b =
        let p : (n : ℕ) × (slice_get r.marked n ≡ Some (Some x)) × (i ≡ length (filter_map (λ (y : Option ℕ). y) (take n r.marked))) = mark_place r.marked i x a in
        let m : Marked p.0 = marks.claimed p.0 (Some x) p.1 in
        let n : Placed b.0 = marks.owned b.0 x b.2 in
        let e : (m.0 ≡ n.0) × (p.0 % 256 ≡ b.0 % 256) = alone m.0 (p.0 % 256) n.0 (b.0 % 256) m.2 n.2 in
        let chunk : p.0 / 256 ≡ length r.claimed + b.0 / 256 =
        once (p.0 / 256) (length r.claimed + b.0 / 256) n.0 (slice_get-more r.claimed r.owned (p.0 / 256) n.0 (m.1 ∙ ap Some e.0)) (slice_get-behind r.claimed r.owned (b.0 / 256) n.0 n.1) in
        let low : p.0 / 256 < length r.claimed = slice_get_within r.claimed (p.0 / 256) m.0 m.1 in
        absurd (omega arith)

    by : Place i → Place j → i ≡ j
    by (inl a) (inl b) =
        let p : (n : ℕ) × (slice_get r.marked n ≡ Some (Some x)) × (i ≡ length (filter_map (λ (y : Option ℕ). y) (take n r.marked))) = mark_place r.marked i x a in
        let q : (n : ℕ) × (slice_get r.marked n ≡ Some (Some x)) × (j ≡ length (filter_map (λ (y : Option ℕ). y) (take n r.marked))) = mark_place r.marked j x b in
        let m : Marked p.0 = marks.claimed p.0 (Some x) p.1 in
        let n : Marked q.0 = marks.claimed q.0 (Some x) q.1 in
        let e : (m.0 ≡ n.0) × (p.0 % 256 ≡ q.0 % 256) = alone m.0 (p.0 % 256) n.0 (q.0 % 256) m.2 n.2 in
        let chunk : p.0 / 256 ≡ q.0 / 256 = once (p.0 / 256) (q.0 / 256) n.0 (slice_get-more r.claimed r.owned (p.0 / 256) n.0 (m.1 ∙ ap Some e.0)) (slice_get-more r.claimed r.owned (q.0 / 256) n.0 n.1) in
        let slot : p.0 % 256 ≡ q.0 % 256 = e.1 in
        let same : p.0 ≡ q.0 = omega arith in
        p.2 ∙ ap (λ k. length (filter_map (λ (y : Option ℕ). y) (take k r.marked))) same ∙ sym q.2
    by (inr a) (inr b) =
        let m : Placed a.0 = marks.owned a.0 x a.2 in
        let n : Placed b.0 = marks.owned b.0 x b.2 in
        let e : (m.0 ≡ n.0) × (a.0 % 256 ≡ b.0 % 256) = alone m.0 (a.0 % 256) n.0 (b.0 % 256) m.2 n.2 in
        let chunk : length r.claimed + a.0 / 256 ≡ length r.claimed + b.0 / 256 =
        once (length r.claimed + a.0 / 256) (length r.claimed + b.0 / 256) n.0 (slice_get-behind r.claimed r.owned (a.0 / 256) n.0 (m.1 ∙ ap Some e.0)) (slice_get-behind r.claimed r.owned (b.0 / 256) n.0 n.1) in
        let slot : a.0 % 256 ≡ b.0 % 256 = e.1 in
        let same : a.0 ≡ b.0 = omega arith in
        a.1 ∙ ap (λ k. length claimed + k) same ∙ sym b.1
    by (inl a) (inr b) = absurd (never i j a b)
    by (inr a) (inl b) = absurd (never j i b a)
