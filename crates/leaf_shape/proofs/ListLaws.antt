-- Lists at the nodes of their paths, before and after one is opened.
use Rattle.std.proofs.Common.{◌≡◌, ◌≢◌, ◌⊎◌, ℕ, ◌<◌, ◌≤◌, inl, inr, List, [], ◌∷◌, ◌++◌, length, Some, Option, ap, ◌∙◌, sym, refl, arith, subst}
use Rattle.std.specs.Prelude.{IsSome, is_some}
use Rattle.std.proofs.lemmas.Bool.{cases_eq, cases_lt}
use Rattle.std.proofs.lemmas.List.{get_or_append_left, get_or_push, length_push}
use Rattle.leaf_shape.specs.declared.node.Node.{Node}
use Rattle.leaf_shape.specs.Shapes.{IsBelow, IsLatest, IsSplit, path_of}
use Rattle.leaf_shape.specs.Tables.{AreListed, HasChildrenAt, IsOpened, list_at}
use Rattle.leaf_shape.proofs.NodeLaws.{some_is}

-- two paths are the same, or not
pub same_or_not : (path other : List ℕ) → (path ≡ other) ⊎ (path ≢ other)
same_or_not [] [] = inl refl
same_or_not [] (h ∷ other) = inr (λ e. cc)
same_or_not (g ∷ path) [] = inr (λ e. cc)
same_or_not (g ∷ path) (h ∷ other) = both (cases_eq g h) (same_or_not path other)
  where
    both : (g ≡ h) ⊎ (g ≡ h → ⊥) → (path ≡ other) ⊎ (path ≢ other) → (g ∷ path ≡ h ∷ other) ⊎ (g ∷ path ≢ h ∷ other)
    both (inl first) (inl rest) = inl (ap (λ k. k ∷ path) first ∙ ap (λ (q : List ℕ). h ∷ q) rest)
    both (inl first) (inr rest) = inr (λ e. rest cc)
    both (inr first) rest = inr (λ e. first cc)

-- ---- paths with one more
pub path_before : (paths : List (List ℕ)) (path : List ℕ) (list : ℕ) → list < length paths → path_of (paths ++ path ∷ []) list ≡ path_of paths list
path_before paths path list low = get_or_append_left paths (path ∷ []) [] list low

pub path_last : (paths : List (List ℕ)) (path : List ℕ) → path_of (paths ++ path ∷ []) (length paths) ≡ path
path_last paths path = get_or_push paths path [] (length paths) refl

-- a list is an earlier one, or the last
pub before_or_last : (paths : List (List ℕ)) (path : List ℕ) (list : ℕ) → list < length (paths ++ path ∷ []) → (list < length paths) ⊎ (list ≡ length paths)
before_or_last paths path list low = elim (cases_lt list (length paths)) [
  | inl l ↦ inl l
  | inr past ↦ inr (omega (arith, past, low, length_push paths path))
]

module _ (paths : List (List ℕ)) (path : List ℕ) where
  pub split_before : (other : List ℕ) → IsSplit paths other → IsSplit (paths ++ path ∷ []) other
  split_before other s =
      let P : List ℕ → Type 0 = λ q. IsBelow other q in
      record { list = s.list; opened = omega (arith, s.opened, length_push paths path); below = subst P (sym (path_before paths path s.list s.opened)) s.below }

  pub split_last : (other : List ℕ) → IsBelow other path → IsSplit (paths ++ path ∷ []) other
  split_last other below =
      let P : List ℕ → Type 0 = λ q. IsBelow other q in
      record { list = length paths; opened = omega (arith, length_push paths path); below = subst P (sym (path_last paths path)) below }

  latest_before : (other : List ℕ) (list : ℕ) → other ≢ path → IsLatest paths other list → IsLatest (paths ++ path ∷ []) other list
  latest_before other list ne l = record {
    opened = omega (arith, l.opened, length_push paths path);
    is = path_before paths path list l.opened ∙ l.is;
    latest = λ k low e. of_place k e (before_or_last paths path k low);
  }
    where
      of_place : (k : ℕ) → path_of (paths ++ path ∷ []) k ≡ other → (k < length paths) ⊎ (k ≡ length paths) → k ≤ list
      of_place k e (inl low) = l.latest k low (sym (path_before paths path k low) ∙ e)
      of_place k e (inr last) = absurd (ne (sym e ∙ ap (path_of (paths ++ path ∷ [])) last ∙ path_last paths path))

  latest_itself : IsLatest (paths ++ path ∷ []) path (length paths)
  latest_itself = record {
    opened = omega (arith, length_push paths path);
    is = path_last paths path;
    latest = λ k low e. omega (arith, low, length_push paths path);
  }

  -- one list more
  pub listed_once_opened : (old new : List Node) (i : ℕ) → AreListed old paths → IsOpened old new path (length paths) i → AreListed new (paths ++ path ∷ [])
  listed_once_opened old new i listed opened = record {
    tree = opened.tree;
    named = λ other list e. named other list e (same_or_not other path);
    found = λ list low. found list (before_or_last paths path list low);
    used = λ other j first at is. used other (opened.used other j first at is);
  }
    where
      named : (other : List ℕ) (list : ℕ) → list_at new other ≡ Some list → (other ≡ path) ⊎ (other ≢ path) → IsLatest (paths ++ path ∷ []) other list
      named other list e (inl same) =
          let number : length paths ≡ list = some_is (length paths) list (sym opened.noted ∙ ap (list_at new) (sym same) ∙ e) in
          let P : List ℕ → Type 0 = λ q. IsLatest (paths ++ path ∷ []) q list in
          let Q : ℕ → Type 0 = λ n. IsLatest (paths ++ path ∷ []) path n in
          subst P (sym same) (subst Q number latest_itself)
      named other list e (inr ne) = latest_before other list ne (listed.named other list (sym (opened.others other ne) ∙ e))

      has_list : (other : List ℕ) → IsSome (list_at old other) → (other ≡ path) ⊎ (other ≢ path) → IsSome (list_at new other)
      has_list other some (inl same) = ap (λ (o : Option ℕ). is_some o) (ap (list_at new) same ∙ opened.noted)
      has_list other some (inr ne) = ap (λ (o : Option ℕ). is_some o) (opened.others other ne) ∙ some

      found : (list : ℕ) → (list < length paths) ⊎ (list ≡ length paths) → IsSome (list_at new (path_of (paths ++ path ∷ []) list))
      found list (inl low) =
          let P : List ℕ → Type 0 = λ q. IsSome (list_at new q) in
          subst P (sym (path_before paths path list low)) (has_list (path_of paths list) (listed.found list low) (same_or_not (path_of paths list) path))
      found list (inr last) = ap (λ (o : Option ℕ). is_some o) (ap (list_at new) (ap (path_of (paths ++ path ∷ [])) last ∙ path_last paths path) ∙ opened.noted)

      used : (other : List ℕ) → HasChildrenAt old other ⊎ IsBelow other path → IsSplit (paths ++ path ∷ []) other
      used other (inl h) = split_before other (listed.used other h.number h.first h.at h.below)
      used other (inr below) = split_last other below
