-- Grants, one after another.
use Rattle.std.proofs.Common.{◌≡◌, ◌≢◌, ℕ, suc, ◌+◌, ◌*◌, ◌<◌, ◌≤◌, List, ◌∷◌, length, map, set, get_or, drop, ap, refl, sym, subst, ◌∙◌, add-one, drop-cons}
use Rattle.std.specs.Prelude.{All, AllPairs}
use Rattle.std.proofs.lemmas.List.{length-set}
use Rattle.list_machine.specs.declared.views.Grant.{Grant}
use Rattle.list_words.specs.PlainGrants.{MayGrant}
use Rattle.list_words.specs.PlainRows.{PlainList, granted_list}
use Rattle.list_words.specs.Plain.{list_in}
use Rattle.list_words.specs.declared.leaf_lists.Phase.TheVariants.{Open}
use Rattle.list_words.proofs.GrantLaws.{IsGranting, granted_more, granted_none}
use Rattle.list_book.specs.Books.{BookRow, IsSized, granted_row, granted_rows, row_at}
use Rattle.list_book.specs.BookKept.{bare_list}
use Rattle.list_book.proofs.RowLaws.{bare-row, bare-set, open_low, sized-granted, sized-set}

-- the first n grants were made
pub record IsGrantingRows (grants : List Grant) (old now : List BookRow) (all n : ℕ) : Type 0 where
  pub bare : IsGranting grants (map bare_list old) (map bare_list now) all n
  pub rest : granted_rows (drop n grants) now ≡ granted_rows grants old
  pub sized : (l : ℕ) → IsSized (row_at now l)
  pub long : length now ≡ length old

pub granting_none : (grants : List Grant) (rows : List BookRow) → All (MayGrant (map bare_list rows)) grants → ((l : ℕ) → IsSized (row_at rows l)) → IsGrantingRows grants rows rows 0 0
granting_none grants rows may sized = record { bare = granted_none grants (map bare_list rows) may; rest = refl; sized = sized; long = refl }

pub may_open : (rows : List BookRow) (g : Grant) → MayGrant (map bare_list rows) g → (row_at rows g.list).phase ≡ Open
may_open rows g may = sym (ap (λ (q : PlainList). q.phase) (bare-row rows g.list)) ∙ may.takes

may_slots : (rows : List BookRow) (g : Grant) → MayGrant (map bare_list rows) g → (row_at rows g.list).granted + g.n ≤ 256 * length (row_at rows g.list).claimed
may_slots rows g may = subst (λ (q : PlainList). q.granted + g.n ≤ 256 * length q.claimed) (bare-row rows g.list) may.slots

pub granting_more : (grants : List Grant) (old now : List BookRow) (all n : ℕ) (g : Grant) → IsGrantingRows grants old now all n → n < length grants → get_or grants n g ≡ g → AllPairs (λ (a b : Grant). a.list ≢ b.list) grants
    → MayGrant (map bare_list now) g → IsGrantingRows grants old (set now g.list (granted_row (row_at now g.list) g.n)) (all + g.n) (n + 1)
granting_more grants old now all n g done small at apart may =
    let lists : List PlainList = map bare_list now in
    let low : g.list < length now = open_low now g.list (may_open now g may) in
    let parts : drop n grants ≡ g ∷ drop (suc n) grants = drop-cons grants n g small ∙ ap (λ h. h ∷ drop (suc n) grants) at in
    let next : set lists g.list (granted_list (list_in lists g.list) g.n) ≡ map bare_list (set now g.list (granted_row (row_at now g.list) g.n)) =
    ap (λ (q : PlainList). set lists g.list (granted_list q g.n)) (bare-row now g.list) ∙ sym (bare-set now g.list (granted_row (row_at now g.list) g.n)) in
    let rest : granted_rows (drop (suc n) grants) (set now g.list (granted_row (row_at now g.list) g.n)) ≡ granted_rows grants old = sym (ap (λ gs. granted_rows gs now) parts) ∙ done.rest in
    record {
      bare = subst (λ (ls : List PlainList). IsGranting grants (map bare_list old) ls (all + g.n) (n + 1)) next (granted_more grants (map bare_list old) lists all n g done.bare small at apart);
      rest = rw (add-one n) rest;
      sized = sized-set now g.list (granted_row (row_at now g.list) g.n) done.sized low (sized-granted (row_at now g.list) g.n (may_slots now g may) (done.sized g.list));
      long = length-set now g.list (granted_row (row_at now g.list) g.n) ∙ done.long;
    }
