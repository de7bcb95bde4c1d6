-- The runs of a node, one after the other.
use Rattle.std.proofs.Common.{◌≡◌, List, [], ◌∷◌, ◌++◌, map, ap, sym, ◌∙◌}
use Rattle.std.proofs.lemmas.List.{map-append, append-nil}
use Rattle.voxel_sampler.specs.Nears.{NearValue, least_nears}
use Rattle.voxel_sampler.proofs.Keys.{merged_nears}
use Rattle.least_runs.specs.Runs.{entries, joined_run}
use Rattle.least_runs.proofs.RunLaws.{joined_push, joined_alone}

-- one run more
pub next_run : {A : Type 0} (f : A → List NearValue) (runs runs' : List A) (x : A) (run old : List NearValue) → runs' ≡ runs ++ x ∷ [] → f x ≡ run → joined_run (map f runs) ≡ old → joined_run (map f runs') ≡ least_nears (old ++ run)
next_run f runs runs' x run old pushed is before =
    ap (λ (rs : List _). joined_run (map f rs)) pushed ∙ ap joined_run (map-append f runs (x ∷ [])) ∙ joined_push (map f runs) (f x) ∙ (λ i. least_nears (before i ++ is i))

-- the first run
pub first_run : {A : Type 0} (f : A → List NearValue) (runs runs' : List A) (x : A) (run : List NearValue) → runs ≡ [] → runs' ≡ runs ++ x ∷ [] → f x ≡ run → joined_run (map f runs') ≡ least_nears run
first_run f runs runs' x run none pushed is = ap (λ (rs : List _). joined_run (map f rs)) (pushed ∙ ap (λ (rs : List _). rs ++ x ∷ []) none) ∙ joined_alone (f x) ∙ ap least_nears is

-- a joined run in place of all
pub all_joined : {A : Type 0} (f : A → List NearValue) (runs lent cleared runs' : List A) (x : A) (run new : List NearValue) → lent ≡ runs → run ≡ joined_run (map f lent) → f x ≡ run → cleared ≡ [] → runs' ≡ cleared ++ x ∷ [] → joined_run (map f runs) ≡ new → joined_run (map f runs') ≡ new
all_joined f runs lent cleared runs' x run new same is of none pushed before =
    let all : List NearValue = entries (map f runs) in
    first_run f cleared runs' x run none pushed of ∙ ap least_nears (is ∙ ap (λ (rs : List _). joined_run (map f rs)) same)
    ∙ sym (ap least_nears (append-nil (least_nears all))) ∙ merged_nears all [] ∙ ap least_nears (append-nil all) ∙ before
