-- A filing after one item more.
use Rattle.std.proofs.Common.{◌≡◌, ℕ, ◌+◌, ◌<◌, ◌^◌, ◌≢◌, ◌⊎◌, Bool, true, false, cond, List, [], ◌∷◌, ◌++◌, length, drop, sym, refl, ap, ◌∙◌, arith, Some, get_or, subst, inl, inr}
use Rattle.std.specs.Prelude.{nat_eq, slice_get, slice_index}
use Rattle.std.proofs.lemmas.Bool.Decides.{nat_tests}
use Rattle.std.proofs.lemmas.List.{drop_more}
use Rattle.std.proofs.lemmas.List.Sums.{sum_by-cons}
use Rattle.std.proofs.lemmas.Option.{get_or_from_slice_get, slice_get-get_or, slice_get_read, slice_get_within}
use Rattle.list_machine.specs.Grants.{granted_in, use_grant}
use Rattle.list_machine.specs.declared.views.Grant.{Grant}
use Rattle.std.proofs.lemmas.List.{length_push}
use Rattle.list_words.proofs.Places.{slice_get-push}
use Rattle.list_words.specs.declared.leaf_lists.Filed.TheVariants.{At}
use Rattle.list_machine.proofs.Grants.{used_here, used_else}
use Rattle.list_words.specs.Filing.{Filing, answer, answered}
use Rattle.list_words.specs.declared.leaf_lists.Answer.{Answer}
use Rattle.list_words.specs.declared.leaf_lists.Filed.{Filed}
use Rattle.batch_filing.specs.Filings.{IsFilerOf, times}

-- an element counts once among those that begin with it
self_counts : (h : ℕ) (rest : List ℕ) → times h (h ∷ rest) ≡ 1 + times h rest
self_counts h rest = sum_by-cons (λ x. cond (nat_eq h x) 1 0) h rest ∙ ap (λ (z : Bool). cond z 1 0 + times h rest) same where
  same : nat_eq h h ≡ true
  same = grind (arith, nat_tests)

-- and no other does
other_counts : (l h : ℕ) (rest : List ℕ) → nat_eq l h ≡ false → times l (h ∷ rest) ≡ times l rest
other_counts l h rest e = sum_by-cons (λ x. cond (nat_eq l x) 1 0) h rest ∙ (ap (λ (z : Bool). cond z 1 0 + times l rest) e ∙ none) where
  none : 0 + times l rest ≡ times l rest
  none = omega arith

-- one place of a list is used by the next item, whose list it is
used_by_next : (l h : ℕ) (rest : List ℕ) (gs : List Grant) → ((k : ℕ) → granted_in k gs ≡ times k (h ∷ rest)) → granted_in l (use_grant h gs) ≡ times l rest
used_by_next l h rest gs is = by (nat_eq l h) refl where
  here : granted_in h gs ≡ 1 + times h rest
  here = is h ∙ self_counts h rest

  by : (b : Bool) → nat_eq l h ≡ b → granted_in l (use_grant h gs) ≡ times l rest
  by true e =
      let same : l ≡ h = grind (arith, nat_tests) in
      let now = here in
      let one = used_here h gs (omega arith) in
      let there : granted_in h (use_grant h gs) ≡ times h rest = omega arith in
      subst (λ (k : ℕ). granted_in k (use_grant h gs) ≡ times k rest) (sym same) there
  by false e =
      let ne : l ≢ h = λ q. grind (arith, nat_tests) in
      used_else h l gs ne ∙ is l ∙ other_counts l h rest e

-- the places that are left begin with the next item's list
rest_is : (lists : List ℕ) (tried : ℕ) → tried < length lists → drop tried lists ≡ slice_index lists tried ∷ drop (tried + 1) lists
rest_is lists tried more = drop_more lists tried 0 more

-- the slots that are left, with those of the next item's list named
left_is : (tried : ℕ) (lists : List ℕ) (gs : List Grant) → ((k : ℕ) → granted_in k gs ≡ times k (drop tried lists)) → tried < length lists
    → (k : ℕ) → granted_in k gs ≡ times k (slice_index lists tried ∷ drop (tried + 1) lists)
left_is tried lists gs is more k = is k ∙ ap (times k) (rest_is lists tried more)

-- one item more was tried
pub filed_next : (first tried : ℕ) (lists : List ℕ) (filer : Filing) (filed : Filed) → IsFilerOf first lists tried filer → tried < length lists
    → IsFilerOf first lists (tried + 1) (answered filer (slice_index lists tried) (first + tried) filed)
filed_next first tried lists filer filed old more = record {
  numbered = old.numbered;
  many = many;
  answers = record { few = let m = many in omega arith; each = each };
  granted = λ k. used_by_next k (slice_index lists tried) (drop (tried + 1) lists) filer.left (left_is tried lists filer.left old.granted more);
} where
  last : Answer
  last = answer (slice_index lists tried) (first + tried) filed

  many : length (filer.answers ++ last ∷ []) ≡ tried + 1
  many = length_push filer.answers last ∙ ap (λ (n : ℕ). n + 1) old.many

  each : (k : ℕ) (a : Answer) → slice_get (filer.answers ++ last ∷ []) k ≡ Some a → (a.item ≡ first + k) × (slice_get lists k ≡ Some a.list)
  each k a is = by (slice_get-push filer.answers last a k is) where
    by : (slice_get filer.answers k ≡ Some a) ⊎ ((k ≡ length filer.answers) × (last ≡ a)) → (a.item ≡ first + k) × (slice_get lists k ≡ Some a.list)
    by (inl old_one) = old.answers.each k a old_one
    by (inr (at, same)) =
        let here : k ≡ tried = at ∙ old.many in (
          ap (λ (x : Answer). x.item) (sym same) ∙ ap (λ (n : ℕ). first + n) (sym here),
          ap (slice_get lists) here ∙ slice_get-get_or lists tried 0 more ∙ ap (λ (x : Answer). Some x.list) same,
        )

-- the same, where the list was read at the item's place
pub filed_there : (first tried : ℕ) (lists : List ℕ) (filer : Filing) (filed : Filed) (list : ℕ) → IsFilerOf first lists tried filer
    → tried < length lists → list ≡ get_or lists tried list → IsFilerOf first lists (tried + 1) (answered filer list (first + tried) filed)
filed_there first tried lists filer filed list old more read =
    subst (λ l. IsFilerOf first lists (tried + 1) (answered filer l (first + tried) filed)) (sym at) (filed_next first tried lists filer filed old more) where
      at : list ≡ slice_index lists tried
      at = sym (get_or_from_slice_get lists tried list 0 (slice_get_read lists (length lists) tried list refl more read))

-- the next item's list has a slot for it
pub may_file : (first tried : ℕ) (lists : List ℕ) (filer : Filing) → IsFilerOf first lists tried filer → tried < length lists
    → 0 < granted_in (slice_index lists tried) filer.left
may_file first tried lists filer old more =
    let here = left_is tried lists filer.left old.granted more (slice_index lists tried) in
    let one = self_counts (slice_index lists tried) (drop (tried + 1) lists) in
    omega arith

-- a filing of a batch of which nothing was tried
pub fresh_filer : (first : ℕ) (lists : List ℕ) (filer : Filing) → first + length lists < 2 ^ 32 → filer.answers ≡ []
    → ((list : ℕ) → granted_in list filer.left ≡ times list lists) → IsFilerOf first lists 0 filer
fresh_filer first lists filer few none granted = record {
  numbered = few;
  many = ap length none;
  answers = record { few = let n : length filer.answers ≡ 0 = ap length none in omega arith; each = each };
  granted = granted;
} where
  each : (k : ℕ) (a : Answer) → slice_get filer.answers k ≡ Some a → (a.item ≡ first + k) × (slice_get lists k ≡ Some a.list)
  each k a is = let within = slice_get_within filer.answers k a is in let n : length filer.answers ≡ 0 = ap length none in absurd (omega arith)

-- where all were tried, each has its answer
pub answer_of_each : (first k : ℕ) (lists : List ℕ) (filer : Filing) → IsFilerOf first lists (length lists) filer → k < length lists
    → (a : Answer) × (slice_get filer.answers k ≡ Some a) × (a.item ≡ first + k) × (slice_get lists k ≡ Some a.list)
answer_of_each first k lists filer all within = (a, here, facts.0, facts.1) where
  default : Answer
  default = answer 0 0 (At 0 0)

  a : Answer
  a = get_or filer.answers k default

  here : slice_get filer.answers k ≡ Some a
  here = let many = all.many in slice_get-get_or filer.answers k default (omega arith)

  facts : (a.item ≡ first + k) × (slice_get lists k ≡ Some a.list)
  facts = all.answers.each k a here
