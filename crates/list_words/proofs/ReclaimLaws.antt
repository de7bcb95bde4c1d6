-- Lists over vectors that are cleared one after another, in the order in which they were shut.
use Rattle.std.proofs.Common.{◌≡◌, ◌≢◌, ℕ, suc, ◌+◌, ◌<◌, inl, inr, Bool, true, false, cond, List, [], ◌∷◌, ◌++◌, length, map, set, get_or, take, Option, ap, refl, sym, subst, ◌∙◌, arith}
use Rattle.std.specs.List.{Contains, sum_by}
use Rattle.std.proofs.lemmas.Bool.{cases_eq}
use Rattle.std.proofs.lemmas.List.{map-set, length-append, length-map}
use Rattle.std.proofs.lemmas.List.Elements.{Contains-append_left, Contains-append_right}
use Rattle.std.proofs.lemmas.List.Sums.{sum_by-cons}
use Rattle.std.proofs.Math.Seq.{take-suc}
use Rattle.list_words.specs.Store.{Store, Row, Unreached, chunks_of, cleared_store, emptied, held_in, is_shut, row_in}
use Rattle.list_words.specs.PlainRows.{PlainList, row_of, emptied_list}
use Rattle.list_words.specs.Plain.{Plain, list_in, store_of, Knows, StandsIn, chunk_count, held_chunks, next_list, next_cleared}
use Rattle.list_words.specs.declared.leaf_lists.Phase.TheVariants.{Shut}
use Rattle.list_words.proofs.ClearLaws.{IsClearing, clearing_more, clearing_none, contains_last}
use Rattle.list_words.proofs.PlainLaws.{row-map, list_in-set_other, list_in-set_same, shut_within}

no_marks : (b : Bool) → (let xs : List (Option ℕ) = cond b [] [] in xs) ≡ []
no_marks true = refl
no_marks false = refl

row_of-emptied : (p : PlainList) → row_of (emptied_list p) ≡ emptied (row_of p)
row_of-emptied p = ap (λ (marked : List (Option ℕ)). let r : Row = record (emptied (row_of p)) { marked = marked } in r) (no_marks (is_shut p.phase))

held-row_of : (p : PlainList) → held_in (row_of p) ≡ held_chunks p
held-row_of p = ap (λ n. cond (is_shut p.phase) n 0) (length-append p.claimed p.owned)

pub held-map : (lists : List PlainList) → sum_by held_in (map row_of lists) ≡ sum_by held_chunks lists
held-map [] = refl
held-map (p ∷ lists) = sum_by-cons held_in (row_of p) (map row_of lists) ∙ ap (λ n. held_in (row_of p) + n) (held-map lists) ∙ ap (λ n. n + sum_by held_chunks lists) (held-row_of p) ∙ sym (sum_by-cons held_chunks p lists)

-- the store then
store-cleared : (q : Plain) → store_of (next_cleared q) ≡ cleared_store (store_of q) (next_list q)
store-cleared q =
    let l : ℕ = next_list q in
    let p : PlainList = list_in q.lists l in
    let rows : map row_of (set q.lists l (emptied_list p)) ≡ set (map row_of q.lists) l (emptied (row_in (map row_of q.lists) l)) =
    map-set row_of q.lists l (emptied_list p) ∙ ap (set (map row_of q.lists) l) (row_of-emptied p ∙ ap emptied (sym (row-map q.lists l))) in
    let count : chunk_count p ≡ length (chunks_of (row_in (map row_of q.lists) l)) = sym (length-append p.claimed p.owned) ∙ ap (λ (r : Row). length (chunks_of r)) (sym (row-map q.lists l)) in
    ap (λ (rs : List Row). let s : Store = record (store_of q) { rows = rs; free = q.free + chunk_count p; cleared = suc q.cleared } in s) rows
    ∙ ap (λ n. let s : Store = record (store_of q) { rows = set (map row_of q.lists) l (emptied (row_in (map row_of q.lists) l)); free = q.free + n; cleared = suc q.cleared } in s) count

-- lists after some of those that may be cleared were cleared: the others are as they were
pub record IsClearingOf (p q : Plain) : Type 0 where
  pub stores : IsClearing (store_of p) (store_of q)
  pub known : (l c x : ℕ) → (Contains (take q.cleared p.order) l → ⊥) → Knows p l c x → Knows q l c x
  pub stays : (l : ℕ) → (Contains (take q.cleared p.order) l → ⊥) → list_in q.lists l ≡ list_in p.lists l
  pub shut : (l : ℕ) → (list_in p.lists l).phase ≡ Shut → (list_in q.lists l).phase ≡ Shut

pub clearing_start : (p : Plain) → IsClearingOf p p
clearing_start p = record { stores = clearing_none (store_of p); known = λ l c x uncleared known. known; stays = λ l uncleared. refl; shut = λ l phase. phase }

pub clearing_next : (p q : Plain) → IsClearingOf p q → q.cleared < length q.order → Unreached q.out q.cleared → (list_in q.lists (next_list q)).phase ≡ Shut → IsClearingOf p (next_cleared q)
clearing_next p q done some nobody shut_now =
    let l : ℕ = next_list q in
    let e : PlainList = emptied_list (list_in q.lists l) in
    let low : l < length q.lists = shut_within q.lists l shut_now in
    let within : l < length (map row_of q.lists) = let long : length (map row_of q.lists) ≡ length q.lists = length-map q.lists row_of in omega arith in
    let phase : (row_in (map row_of q.lists) l).phase ≡ Shut = ap (λ (r : Row). r.phase) (row-map q.lists l) ∙ shut_now in
    let order_is : q.order ≡ p.order = ap (λ (s : Store). s.order) done.stores.rest in
    let some_p : q.cleared < length p.order = subst (λ (xs : List ℕ). q.cleared < length xs) order_is some in
    let l_is : get_or p.order q.cleared 0 ≡ l = ap (λ (xs : List ℕ). get_or xs q.cleared 0) (sym order_is) in
    let taken : take (suc q.cleared) p.order ≡ take q.cleared p.order ++ l ∷ [] = take-suc p.order q.cleared 0 some_p ∙ ap (λ k. take q.cleared p.order ++ k ∷ []) l_is in
    let before : (m : ℕ) → (Contains (take (suc q.cleared) p.order) m → ⊥) → Contains (take q.cleared p.order) m → ⊥ = λ m uncleared inside.
    uncleared (subst (λ (xs : List ℕ). Contains xs m) (sym taken) (Contains-append_left (take q.cleared p.order) (l ∷ []) m inside)) in
    let other : (m : ℕ) → (Contains (take (suc q.cleared) p.order) m → ⊥) → m ≢ l = λ m uncleared same.
    uncleared (subst (λ (xs : List ℕ). Contains xs m) (sym taken) (Contains-append_right (take q.cleared p.order) (l ∷ []) m (contains_last l m same))) in
    record {
      stores = subst (IsClearing (store_of p)) (sym (store-cleared q)) (clearing_more (store_of p) (store_of q) done.stores some nobody phase within);
      known = λ m c x uncleared known. subst (λ (b : PlainList). StandsIn b c x) (sym (list_in-set_other q.lists l m e (other m uncleared))) (done.known m c x (before m uncleared) known);
      stays = λ m uncleared. list_in-set_other q.lists l m e (other m uncleared) ∙ done.stays m (before m uncleared);
      shut = λ m phase. elim (cases_eq m l) [
        | inl same ↦ ap (λ (b : PlainList). b.phase) (ap (list_in (set q.lists l e)) same ∙ list_in-set_same q.lists l e low) ∙ shut_now
        | inr apart ↦ ap (λ (b : PlainList). b.phase) (list_in-set_other q.lists l m e apart) ∙ done.shut m phase
      ];
    }
