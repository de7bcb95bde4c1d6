-- Where the items stand that answers name: at the home of their chunk, or nowhere.
use Rattle.std.proofs.Common.{◌≡◌, ℕ, ◌+◌, ◌*◌, ◌<◌, ◌≤◌, ◌↔◌, Bool, false, IsTrue, List, length, Some, ap, sym, subst, ◌∙◌, arith}
use Rattle.std.specs.List.{slice_get}
use Rattle.std.proofs.lemmas.Option.{same_Some, slice_get_within}
use Rattle.chunk_pool.specs.Numbers.{Numbers}
use Rattle.list_words.specs.PlainRows.{PlainList}
use Rattle.list_words.specs.Plain.{Bears, StandsAt, list_in}
use Rattle.list_words.specs.PlainKept.{AreHomed, home_of}
use Rattle.list_words.specs.declared.leaf_lists.Filed.{Filed}
use Rattle.list_words.specs.declared.leaf_lists.Filed.TheVariants.{At}
use Rattle.list_words.specs.declared.plain_homes.Home.{Home}

-- the item stands in the slot, by the rank at which the chunk is looked for
abbrev pub StandsByRank : PlainList → ℕ → ℕ → ℕ → ℕ → Type 0
StandsByRank p rank item c i = (slice_get p.claimed rank ≡ Some c) × (i < 256) × (slice_get p.filed (256 * rank + i) ≡ Some item)

-- an item that stands in a slot of a chunk stands there by the rank of the chunk's home
pub stands_at_home : (lists : List PlainList) (homes : List Home) (pool : Numbers) (l item c i : ℕ) (h : Home) → AreHomed lists homes pool → StandsAt false (list_in lists l) item c i → slice_get homes c ≡ Some h
    → StandsByRank (list_in lists l) h.rank item c i
stands_at_home lists homes pool l item c i h kept at here =
    let e : Some (home_of l false at.rank) ≡ Some h = sym (kept.home false l at.rank c at.chunk) ∙ here in
    let same : at.rank ≡ h.rank = ap (λ (x : Home). x.rank) (same_Some _ _ e) in
    subst (λ r. StandsByRank (list_in lists l) r item c i) same (at.chunk, at.within, at.stands)

-- in a chunk without a home nothing stands
pub nothing_without_home : (lists : List PlainList) (homes : List Home) (pool : Numbers) (l item c i : ℕ) → AreHomed lists homes pool → length homes ≤ c → StandsAt false (list_in lists l) item c i → ⊥
nothing_without_home lists homes pool l item c i kept high at =
    let low : c < length homes = slice_get_within homes c (home_of l false at.rank) (kept.home false l at.rank c at.chunk) in
    absurd (omega arith)

-- an answer is borne out exactly where its item stands by the rank of its chunk's home
pub borne_at_home : (lists : List PlainList) (homes : List Home) (pool : Numbers) (l item c i : ℕ) (h : Home) (row : PlainList) (filed : Filed) (b : Bool) → AreHomed lists homes pool → row ≡ list_in lists l
    → slice_get homes c ≡ Some h → filed ≡ At c i → (IsTrue b ↔ StandsByRank row h.rank item c i) → IsTrue b ↔ Bears (list_in lists l) item filed
borne_at_home lists homes pool l item c i h row filed b kept is here at found =
    subst (λ (f : Filed). IsTrue b ↔ Bears (list_in lists l) item f) (sym at) (
      (λ yes. let here_now : StandsByRank (list_in lists l) h.rank item c i = subst (λ (p : PlainList). StandsByRank p h.rank item c i) is (found.0 yes) in
          record { rank = h.rank; chunk = here_now.0; within = here_now.1; stands = here_now.2 }),
      (λ stands. found.1 (subst (λ (p : PlainList). StandsByRank p h.rank item c i) (sym is) (stands_at_home lists homes pool l item c i h kept stands here))),
    )
