-- Grants of as many slots in each list, and lists after them.
use Rattle.std.proofs.Common.{◌≡◌, ◌≢◌, ℕ, zero, suc, ◌+◌, ◌*◌, ◌<◌, ◌≤◌, cond, nat_eq, Bool, List, [], ◌∷◌, length, map, get_or, set, length-set, All, AllPairs, sum, refl, sym, ap, ◌∙◌, subst, arith, eq-eqb, ne_eqb, get_or-set_other}
use mathlib.Core.Logic.{dite}
use native.Mathlib.Decide.{ℕ_discrete}
use Rattle.std.specs.List.{range_with_len}
use Rattle.std.proofs.Math.Nat.{le-max_right, mul-add, suc-mul}
use Rattle.std.proofs.lemmas.List.{get_or-set_same}
use Rattle.std.proofs.lemmas.List.FromFn.{get_or-map-range_with_len, length-map-range_with_len}
use Rattle.std.proofs.lemmas.List.Sums.{sum_by-cons}
use Rattle.list_machine.specs.declared.views.Grant.{Grant}
use Rattle.list_machine.specs.Grants.{granted_in, granted_in_all}
use Rattle.list_words.specs.Store.{IsOpen, MayAdmit, Row, Store, admitted, counted, grant_rows, more_granted, no_row, row, row_in, with_filer_room}
use Rattle.list_words.proofs.RowLaws.{row-grant_rows}
use Rattle.chunk_lists.proofs.Knowing.{grant_rows_long}
use Rattle.worked_lists.specs.Layouts.{HasRoomFor, IsLaidOut, even_grants, grant_of}

-- leave to claim so many slots in each of n lists, from the list a on
abbrev evens : ℕ → ℕ → ℕ → List Grant
evens places a n = map (grant_of places) (range_with_len a n)

-- the slots of one grant in a list
abbrev one_in : ℕ → Grant → ℕ
one_in l g = cond (nat_eq g.list l) g.n 0

evens_in_all : (places a n : ℕ) → granted_in_all (evens places a n) ≡ n * places
evens_in_all places a zero = omega arith
evens_in_all places a (suc n) =
    let head = sum_by-cons (λ (g : Grant). g.n) (grant_of places a) (evens places (a + 1) n) in
    let rest = evens_in_all places (a + 1) n in
    let more = suc-mul n places in
    omega (arith, head, rest, more)

evens_before : (l places a n : ℕ) → l < a → granted_in l (evens places a n) ≡ 0
evens_before l places a zero lt = refl
evens_before l places a (suc n) lt =
    let head : granted_in l (evens places a (suc n)) ≡ one_in l (grant_of places a) + granted_in l (evens places (a + 1) n) = refl in
    let none : one_in l (grant_of places a) ≡ 0 = ap (λ (b : Bool). cond b places 0) (ne_eqb a l (λ e. omega arith)) in
    let rest = evens_before l places (a + 1) n (omega arith) in
    omega (arith, head, none, rest)

evens_of : (l places a n : ℕ) → a ≤ l → l < a + n → granted_in l (evens places a n) ≡ places
evens_of l places a zero from low = absurd (omega arith)
evens_of l places a (suc n) from low =
    let head : granted_in l (evens places a (suc n)) ≡ one_in l (grant_of places a) + granted_in l (evens places (a + 1) n) = refl in
    dite (ℕ_discrete a l)
    (λ e.
    let all : one_in l (grant_of places a) ≡ places = ap (λ (b : Bool). cond b places 0) (eq-eqb a l e) in
    let rest = evens_before l places (a + 1) n (omega arith) in
    omega (arith, head, all, rest))
    (λ ne.
    let none : one_in l (grant_of places a) ≡ 0 = ap (λ (b : Bool). cond b places 0) (ne_eqb a l ne) in
    let rest = evens_of l places (a + 1) n (omega arith) (omega arith) in
    omega (arith, head, none, rest))

-- of each list they give so many
pub even_in : (l lists places : ℕ) → l < lists → granted_in l (even_grants lists places) ≡ places
even_in l lists places low = evens_of l places 0 lists (omega arith) (omega arith)

even_long : (lists places : ℕ) → length (even_grants lists places) ≡ lists
even_long lists places = length-map-range_with_len (grant_of places) 0 lists

even_at : (lists places k : ℕ) (d : Grant) → k < lists → get_or (even_grants lists places) k d ≡ grant_of places k
even_at lists places k d low = get_or-map-range_with_len (grant_of places) 0 lists k k d low (omega arith)

even_all : (P : Grant → Type 0) (lists places : ℕ) → ((l : ℕ) → l < lists → P (grant_of places l)) → All P (even_grants lists places)
even_all P lists places each k d lt =
    let low : k < lists = subst (λ n. k < n) (even_long lists places) lt in
    subst P (sym (even_at lists places k d low)) (each k low)

even_apart : (lists places : ℕ) → AllPairs (λ (a b : Grant). a.list ≢ b.list) (even_grants lists places)
even_apart lists places i j d lt low e =
    let within : j < lists = subst (λ n. j < n) (even_long lists places) low in
    let first : (get_or (even_grants lists places) i d).list ≡ i = ap (λ (g : Grant). g.list) (even_at lists places i d (omega arith)) in
    let second : (get_or (even_grants lists places) j d).list ≡ j = ap (λ (g : Grant). g.list) (even_at lists places j d within) in
    let same : i ≡ j = sym first ∙ (e ∙ second) in
    omega (arith, same, lt)

-- a list has as many more slots granted as the grants give in it
grants_add : (gs : List Grant) (rows : List Row) (l : ℕ) → l < length rows → (row_in (grant_rows gs rows) l).granted ≡ (row_in rows l).granted + granted_in l gs
grants_add [] rows l low = omega arith
grants_add (g ∷ gs) rows l low =
    let more : Row = more_granted (row_in rows g.list) g.n in
    let rest = grants_add gs (set rows g.list more) l (subst (λ n. l < n) (sym (length-set rows g.list more)) low) in
    let head : granted_in l (g ∷ gs) ≡ one_in l g + granted_in l gs = refl in
    dite (ℕ_discrete g.list l)
    (λ e.
    let all : one_in l g ≡ g.n = ap (λ (b : Bool). cond b g.n 0) (eq-eqb g.list l e) in
    let there : (row_in (set rows g.list more) l).granted ≡ (row_in rows g.list).granted + g.n =
    ap (λ k. (row_in (set rows g.list more) k).granted) (sym e) ∙ ap (λ (r : Row). r.granted) (get_or-set_same rows g.list more no_row (subst (λ n. n < length rows) (sym e) low)) in
    let same : (row_in rows g.list).granted ≡ (row_in rows l).granted = ap (λ k. (row_in rows k).granted) e in
    omega (arith, head, all, rest, there, same))
    (λ ne.
    let none : one_in l g ≡ 0 = ap (λ (b : Bool). cond b g.n 0) (ne_eqb g.list l ne) in
    let there : (row_in (set rows g.list more) l).granted ≡ (row_in rows l).granted =
    ap (λ (r : Row). r.granted) (get_or-set_other rows g.list l more no_row (λ e. ne (sym e))) in
    omega (arith, head, none, rest, there))

module _ (s : Store) (lists chunks granted seats places : ℕ) (laid : IsLaidOut s lists chunks granted seats) where
  abbrev gs : List Grant
  gs = even_grants lists places

  below : (l : ℕ) → l < lists → l < length s.rows
  below l low = subst (λ n. l < n) (sym laid.lists_are) low

  -- the grants may be given, where there is room for them
  pub may_admit : HasRoomFor lists chunks (granted + places) (seats + 1) → MayAdmit (with_filer_room s lists (lists * places)) gs
  may_admit room = record {
    grants_room = subst (λ n. n ≤ (with_filer_room s lists (lists * places)).grants_room) (sym (even_long lists places)) (le-max_right s.grants_room lists);
    items_room = subst (λ n. n ≤ (with_filer_room s lists (lists * places)).items_room) (sym (evens_in_all places 0 lists)) (le-max_right s.items_room (lists * places));
    apart = even_apart lists places;
    takes = even_all (λ (g : Grant). IsOpen s g.list × ((row s g.list).granted + g.n ≤ 256 * length (row s g.list).claimed)) lists places (λ l low.
        let plot = laid.plots l (omega arith) (below l low) in
        let g = laid.grants l low in
        let c = plot.claimed in
        let r = room.0 in
        (plot.phase, omega (arith, g, c, r)));
    few =
        let all = evens_in_all places 0 lists in
        let given = laid.given in
        let split = mul-add lists granted places in
        let r = room.1 in
        omega (arith, all, given, split, r);
    seats = let r = room.2 in subst (λ (out : List ℕ). sum out < 18446744073709551615) (sym laid.out) (omega (arith, r));
  }

  -- and the lists are laid out alike then
  pub laid_after : (r i : ℕ) → IsLaidOut (admitted (record s { grants_room = r; items_room = i }) gs) lists chunks (granted + places) (seats + 1)
  laid_after r i = record {
    lists_are = grant_rows_long gs s.rows ∙ laid.lists_are;
    plots = λ l from low.
        let within : l < length s.rows = subst (λ n. l < n) (grant_rows_long gs s.rows) low in
        let plot = laid.plots l from within in
        let same = row-grant_rows gs s.rows l in
        record { phase = same.phase ∙ plot.phase; claimed = ap length same.claimed ∙ plot.claimed; owned = same.owned ∙ plot.owned; placed = same.placed ∙ plot.placed };
    grants = λ l low.
        let adds = grants_add gs s.rows l (below l low) in
        let g = laid.grants l low in
        let each = even_in l lists places low in
        omega (arith, adds, g, each);
    given =
        let all = evens_in_all places 0 lists in
        let given = laid.given in
        let split = mul-add lists granted places in
        omega (arith, all, given, split);
    order = laid.order;
    out = ap (λ (z : List ℕ × List ℕ). counted z.0 (length z.1)) (λ j. (laid.out j, laid.order j));
  }
