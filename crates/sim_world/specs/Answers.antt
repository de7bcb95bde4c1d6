-- What became of a loader's batches.
use Rattle.std.specs.Prelude.{◌≡◌, ℕ, ◌%◌, ◌==◌, Bool, true, false, List, [], ◌∷◌, ◌++◌, map, filter, filter_map, Option, Some, None, if◌then◌else◌}
use Rattle.cube_math.specs.Batches.{BatchValue}
use Rattle.cube_math.specs.declared.refused.Cause.{Cause}
use Rattle.cube_math.specs.declared.refused.RefusedRow.{RefusedRow}
use Rattle.record_model.specs.Records.{JournalEntry}
use Rattle.sim_world.specs.Jobs.{JobValue, batches_of}
use Rattle.sim_world.specs.Worlds.{LoaderPlace, admits, clears_first, links, leaves_admitted, leaves_refused, files, clears_again, leaves_unpublished, gives_back, shuts, marks, moves, places, commits, leaves_published}

-- what became of a batch
pub data Answer : Type 0 where
  Published : Answer
  Refused : Cause → Answer

-- the entry of a published batch of a loader
abbrev pub entry_for : ℕ → BatchValue × Answer → Option JournalEntry
entry_for k (b, Published) = Some record { input = b.input; loader = k; points = b.points }
entry_for k (b, Refused cause) = None

-- the row of a refused batch
abbrev pub refusal_for : BatchValue × Answer → Option RefusedRow
refusal_for (b, Published) = None
refusal_for (b, Refused cause) = Some record { input = b.input; cause = cause }

-- the entries of a loader in a journal, and its rows among those of all loaders, which take turns with the inputs
abbrev pub entries_of : ℕ → List JournalEntry → List JournalEntry
entries_of k entries = filter (λ (e : JournalEntry). e.loader == k) entries

abbrev pub refusals_of : JobValue → ℕ → List RefusedRow → List RefusedRow
refusals_of job k rows = filter (λ (r : RefusedRow). r.input % job.loaders == k) rows

-- the loader's batches but these last ones have their answers: its entries and its rows are those of the answers, in order
pub record IsAnswered (job : JobValue) (k : ℕ) (entries : List JournalEntry) (rows : List RefusedRow) (rest : List BatchValue) : Type 0 where
  pub answers : List (BatchValue × Answer)
  pub batches : map (λ (x : BatchValue × Answer). x.0) answers ++ rest ≡ batches_of job k
  pub published : filter_map (entry_for k) answers ≡ entries_of k entries
  pub refused : filter_map refusal_for answers ≡ refusals_of job k rows

-- whether the first batch that a loader has not done was answered already
abbrev pub is_settled : LoaderPlace → Bool
is_settled admits = false
is_settled clears_first = false
is_settled (links ls) = false
is_settled leaves_admitted = false
is_settled leaves_refused = true
is_settled (files f) = false
is_settled (clears_again f) = false
is_settled (leaves_unpublished f) = true
is_settled (gives_back f) = true
is_settled (shuts f ls) = false
is_settled (marks f l found ls) = false
is_settled (moves f items ls) = false
is_settled (places f items) = false
is_settled (commits f) = false
is_settled leaves_published = true

-- the batches behind the first
abbrev pub behind_first : List BatchValue → List BatchValue
behind_first [] = []
behind_first (b ∷ bs) = bs

-- the batches that are not answered, of a loader at this place that has not done these
abbrev pub unanswered : LoaderPlace → List BatchValue → List BatchValue
unanswered place bs = if is_settled place then behind_first bs else bs
