-- Claimed chains that grow.
use Rattle.std.proofs.Common.{◌≡◌, ◌≢◌, ℕ, zero, suc, ◌+◌, ◌-◌, ◌*◌, ◌<◌, ◌≤◌, inl, inr, false, cond, ◌==◌, List, [], ◌∷◌, ◌++◌, length, get_or, take, sum_by, AllPairs, refl, ap, sym, ◌∙◌, subst, arith, length-append, eq-eqb, append_assoc}
use Rattle.std.proofs.Math.ListN.{length-set}
use Rattle.std.proofs.lemmas.Bool.{cases_eq}
use Rattle.std.proofs.lemmas.List.{append-nil, take_more}
use Rattle.std.proofs.lemmas.List.Sums.{sum_by-append, sum_by-cons, sum_by-take-le}
use Rattle.chunk_pool.specs.Amounts.{chunks_for}
use Rattle.list_machine.specs.declared.views.Grant.{Grant}
use Rattle.list_words.specs.Store.{Store, Row, IsOpen, row, with_chunk, linked}
use Rattle.list_words.proofs.RowLaws.{open_holds, open_row, row-with_row, row-with_row_other}
use Rattle.item_moves.specs.Links.{AreLinked, lacking, lacking_in, lacking_in_all, one_grown}

plus_none : (n : ℕ) → n + 0 ≡ n
plus_none n = omega arith

not_here : (h l : ℕ) → h ≢ l → (h == l) ≡ false
not_here h l ne = grind arith

pub grown_here : (list n : ℕ) → one_grown list n list ≡ n
grown_here list n = ap (λ b. cond b n 0) (eq-eqb list list refl)

pub grown_other : (list n l : ℕ) → l ≢ list → one_grown list n l ≡ 0
grown_other list n l ne = ap (λ b. cond b n 0) (not_here list l (λ e. ne (sym e)))

grown_more : (list n m l : ℕ) → one_grown list n l + one_grown list m l ≡ one_grown list (n + m) l
grown_more list n m l = elim (cases_eq l list) [
  | inl same ↦
      subst (λ k. one_grown list n k + one_grown list m k ≡ one_grown list (n + m) k) (sym same)
      (omega (arith, grown_here list n, grown_here list m, grown_here list (n + m)))
  | inr other ↦ omega (arith, grown_other list n l other, grown_other list m l other, grown_other list (n + m) l other)
]

-- ---- one after the other
pub linked_same : (s t : Store) (grown grown' : ℕ → ℕ) (all all' : ℕ) → ((l : ℕ) → grown l ≡ grown' l) → all ≡ all' → AreLinked s t grown all
    → AreLinked s t grown' all'
linked_same s t grown grown' all all' e f h = record {
  rest = h.rest;
  lists = h.lists;
  free = ap (λ n. t.free + n) (sym f) ∙ h.free;
  rows = h.rows;
  longer = λ l. let more = h.longer l in (more.0, more.1, more.2 ∙ e l);
  room = λ l. ap (λ n. (row t l).claimed_room + n) (sym (e l)) ∙ h.room l;
  held = h.held;
}

pub linked_none : (s : Store) (grown : ℕ → ℕ) → ((l : ℕ) → grown l ≡ 0) → AreLinked s s grown 0
linked_none s grown none = record {
  rest = refl;
  lists = refl;
  free = plus_none s.free;
  rows = λ l. refl;
  longer = λ l. ([], sym (append-nil (row s l).claimed), sym (none l));
  room = λ l. omega (arith, none l);
  held = refl;
}

pub linked_more : (s t u : Store) (one two both : ℕ → ℕ) (n m all : ℕ) → AreLinked s t one n → AreLinked t u two m → ((l : ℕ) → one l + two l ≡ both l)
    → n + m ≡ all → AreLinked s u both all
linked_more s t u one two both n m all h k e f = record {
  rest = k.rest ∙ ap (λ (v : Store). record v { rows = u.rows; free = u.free }) h.rest;
  lists = k.lists ∙ h.lists;
  free = omega (arith, f, h.free, k.free);
  rows = λ l. k.rows l ∙ ap (λ (r : Row). record r { claimed = (row u l).claimed; claimed_room = (row u l).claimed_room }) (h.rows l);
  longer = λ l.
      let first = h.longer l in
      let next = k.longer l in (
        first.0 ++ next.0,
        next.1 ∙ ap (λ (c : List ℕ). c ++ next.0) first.1 ∙ append_assoc (row s l).claimed first.0 next.0,
        length-append first.0 next.0 ∙ ap (λ i. i + length next.0) first.2 ∙ ap (λ i. one l + i) next.2 ∙ e l,
      );
  room = λ l. omega (arith, e l, h.room l, k.room l);
  held = k.held ∙ h.held;
}

pub linked_open : (s t : Store) (grown : ℕ → ℕ) (all l : ℕ) → AreLinked s t grown all → IsOpen s l → IsOpen t l
linked_open s t grown all l h o = ap (λ (r : Row). r.phase) (h.rows l) ∙ o

-- the chain of a list that did not grow, and its row
pub not_grown : (s t : Store) (grown : ℕ → ℕ) (all l : ℕ) → AreLinked s t grown all → grown l ≡ 0 → length (row t l).claimed ≡ length (row s l).claimed
not_grown s t grown all l h none =
    let more = h.longer l in
    ap length more.1 ∙ length-append (row s l).claimed more.0 ∙ ap (λ n. length (row s l).claimed + n) (more.2 ∙ none) ∙ plus_none (length (row s l).claimed)

-- one chunk was linked
pub linked_one : (s : Store) (list c : ℕ) → IsOpen s list → 0 < (row s list).claimed_room → 0 < s.free
    → AreLinked s (with_chunk s list (linked (row s list) c)) (one_grown list 1) 1
linked_one s list c o room free =
    let t : Store = with_chunk s list (linked (row s list) c) in
    let here : row t list ≡ linked (row s list) c = row-with_row s list (linked (row s list) c) (open_row s list o) in
    let there : (l : ℕ) → l ≢ list → row t l ≡ row s l = λ l ne. row-with_row_other s list l (linked (row s list) c) ne in
    let at : (l : ℕ) → l ≡ list → row t l ≡ linked (row s l) c = λ l same. ap (row t) same ∙ here ∙ ap (λ k. linked (row s k) c) (sym same) in
    let one : (l : ℕ) → l ≡ list → one_grown list 1 l ≡ 1 = λ l same. ap (one_grown list 1) same ∙ grown_here list 1 in
    record {
      rest = refl;
      lists = length-set s.rows list (linked (row s list) c);
      free = omega arith;
      rows = λ l. elim (cases_eq l list) [
        | inl same ↦ at l same ∙ (λ i. record (row s l) { claimed = (sym (at l same) i).claimed; claimed_room = (sym (at l same) i).claimed_room })
        | inr other ↦
            there l other ∙ (λ i. record (row s l) { claimed = (sym (there l other) i).claimed; claimed_room = (sym (there l other) i).claimed_room })
      ];
      longer = λ l. elim (cases_eq l list) [
        | inl same ↦ (c ∷ [], ap (λ (r : Row). r.claimed) (at l same), sym (one l same))
        | inr other ↦ ([], ap (λ (r : Row). r.claimed) (there l other) ∙ sym (append-nil (row s l).claimed), sym (grown_other list 1 l other))
      ];
      room = λ l. elim (cases_eq l list) [
        | inl same ↦
            let some : 0 < (row s l).claimed_room = subst (λ k. 0 < (row s k).claimed_room) (sym same) room in
            omega (arith, ap (λ (r : Row). r.claimed_room) (at l same), one l same, some)
        | inr other ↦ omega (arith, ap (λ (r : Row). r.claimed_room) (there l other), grown_other list 1 l other)
      ];
      held = open_holds s list (linked (row s list) c) o o;
    }

pub linked_again : (s t u : Store) (list n : ℕ) → AreLinked s t (one_grown list n) n → AreLinked t u (one_grown list 1) 1
    → AreLinked s u (one_grown list (n + 1)) (n + 1)
linked_again s t u list n h k = linked_more s t u (one_grown list n) (one_grown list 1) (one_grown list (n + 1)) n 1 (n + 1) h k (grown_more list n 1) refl

pub linked_zero : (s : Store) (list : ℕ) → AreLinked s s (one_grown list 0) 0
linked_zero s list = linked_none s (one_grown list 0) nothing
  where
    nothing : (l : ℕ) → one_grown list 0 l ≡ 0
    nothing l = elim (cases_eq l list) [ inl same ↦ ap (one_grown list 0) same ∙ grown_here list 0 | inr other ↦ grown_other list 0 l other ]

-- ---- what grants lack, one after the other
module _ (s : Store) (grants : List Grant) (i : ℕ) (d : Grant) (low : i < length grants) where
  abbrev this : Grant
  this = get_or grants i d

  sum_one : (f : Grant → ℕ) → sum_by f (take (i + 1) grants) ≡ sum_by f (take i grants) + f this
  sum_one f =
      ap (sum_by f) (take_more grants i d low) ∙ sum_by-append f (take i grants) (this ∷ [])
      ∙ ap (λ n. sum_by f (take i grants) + n) (sum_by-cons f this [] ∙ plus_none (f this))

  pub lacking_more : (l : ℕ) → lacking_in s (take i grants) l + one_grown this.list (lacking s this) l ≡ lacking_in s (take (i + 1) grants) l
  lacking_more l = sym (sum_one (λ g. one_grown g.list (lacking s g) l))

  pub lacking_all_more : lacking_in_all s (take i grants) + lacking s this ≡ lacking_in_all s (take (i + 1) grants)
  lacking_all_more = sym (sum_one (lacking s))

  pub few_so_far : lacking_in_all s (take i grants) + lacking s this ≤ lacking_in_all s grants
  few_so_far = subst (λ n. n ≤ lacking_in_all s grants) (sym lacking_all_more) (sum_by-take-le (lacking s) grants (i + 1))

  module _ (apart : AllPairs (λ (a b : Grant). a.list ≢ b.list) grants) where
    pub not_yet : lacking_in s (take i grants) this.list ≡ 0
    not_yet = none_before i (omega arith)
      where
        plus : (a b : ℕ) → a ≡ 0 → b ≡ 0 → a + b ≡ 0
        plus a b e k = omega arith

        none_before : (k : ℕ) → k ≤ i → lacking_in s (take k grants) this.list ≡ 0
        none_before zero h = refl
        none_before (suc k) h =
            let f : Grant → ℕ = λ g. one_grown g.list (lacking s g) this.list in
            let other : Grant = get_or grants k d in
            let ne : this.list ≢ other.list = λ e. apart k i d (omega arith) low (sym e) in
            ap (λ n. lacking_in s (take n grants) this.list) (one_more k)
            ∙ ap (sum_by f) (take_more grants k d (omega arith)) ∙ sum_by-append f (take k grants) (other ∷ [])
            ∙ plus _ _ (none_before k (omega arith)) (sum_by-cons f other [] ∙ plus_none (f other) ∙ grown_other other.list (lacking s other) this.list ne)
          where
            one_more : (k : ℕ) → suc k ≡ k + 1
            one_more k = omega arith

-- ---- while other lists' chains grow, a grant's list lacks as much as before
pub lacking_still : (s t : Store) (grown : ℕ → ℕ) (all : ℕ) (g : Grant) → AreLinked s t grown all → grown g.list ≡ 0 → lacking t g ≡ lacking s g
lacking_still s t grown all g h none =
    ap (λ n. chunks_for (n + g.n) - length (row t g.list).claimed) (ap (λ (r : Row). r.granted) (h.rows g.list))
    ∙ ap (λ n. chunks_for ((row s g.list).granted + g.n) - n) (not_grown s t grown all g.list h none)

pub room_still : (s t : Store) (grown : ℕ → ℕ) (all l : ℕ) → AreLinked s t grown all → grown l ≡ 0 → (row t l).claimed_room ≡ (row s l).claimed_room
room_still s t grown all l h none = omega (arith, h.room l, none)

-- ---- a chunk for each slot
enough : (m claimed more : ℕ) → chunks_for m - claimed ≤ more → m ≤ 256 * (claimed + more)
enough m claimed more h = omega arith

pub slots_after : (s t : Store) (grants : List Grant) (k : ℕ) (d : Grant) (all : ℕ) → AreLinked s t (lacking_in s grants) all → k < length grants
    → (row t (get_or grants k d).list).granted + (get_or grants k d).n ≤ 256 * length (row t (get_or grants k d).list).claimed
slots_after s t grants k d all h low =
    let a : Grant = get_or grants k d in
    let f : Grant → ℕ = λ g. one_grown g.list (lacking s g) a.list in
    let more = h.longer a.list in
    let long : length (row t a.list).claimed ≡ length (row s a.list).claimed + lacking_in s grants a.list =
    ap length more.1 ∙ length-append (row s a.list).claimed more.0 ∙ ap (λ n. length (row s a.list).claimed + n) more.2 in
    let own : lacking_in s (take k grants) a.list + one_grown a.list (lacking s a) a.list ≡ lacking_in s (take (k + 1) grants) a.list =
    lacking_more s grants k d low a.list in
    let part : lacking_in s (take (k + 1) grants) a.list ≤ lacking_in s grants a.list = sum_by-take-le f grants (k + 1) in
    let some : lacking s a ≤ lacking_in s grants a.list = omega (arith, own, part, grown_here a.list (lacking s a)) in
    let granted : (row t a.list).granted ≡ (row s a.list).granted = ap (λ (r : Row). r.granted) (h.rows a.list) in
    subst (λ n. n + a.n ≤ 256 * length (row t a.list).claimed) (sym granted)
    (subst (λ n. (row s a.list).granted + a.n ≤ 256 * n) (sym long)
    (enough ((row s a.list).granted + a.n) (length (row s a.list).claimed) (lacking_in s grants a.list) some))
