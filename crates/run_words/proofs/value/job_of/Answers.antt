use Rattle.std.proofs.Common.{lit<, refl, sym, subst, map, string_bytes, codes}
use Rattle.std.specs.Prelude.{pos, ◌-◌, ◌^◌}
use Rattle.run_words.specs.Options.{options}
use Rattle.run_words.specs.Values.{job_of, HasRanges}
use Rattle.run_words.proofs.Fits.{fit_row, wider_form}
use Rattle.run_words.proofs.JobRanges.{has_ranges}
use Rattle.run_words.proofs.value.job_of.Goals as goal

pub cube_of-requires : goal.cube_of-requires
unfolding options
cube_of-requires c = fit_row (map string_bytes c.args.given.now.words.now) 0 c.requires (lit< tt)

pub pos_of-requires : goal.pos_of-requires
unfolding options
pos_of-requires c = fit_row (map string_bytes c.args.given.now.words.now) 9 c.requires (lit< tt)

pub rows_of-requires : goal.rows_of-requires
unfolding options
rows_of-requires c = fit_row (map string_bytes c.args.given.now.words.now) 10 c.requires (lit< tt)

pub size_of-requires : goal.size_of-requires
unfolding options
size_of-requires c = fit_row (map string_bytes c.args.given.now.words.now) 13 c.requires (lit< tt)

pub generate_of-requires : goal.generate_of-requires
unfolding options
generate_of-requires c = fit_row (map string_bytes c.args.given.now.words.now) 20 c.requires (lit< tt)

pub seed_of-requires : goal.seed_of-requires
unfolding options
seed_of-requires c = fit_row (map string_bytes c.args.given.now.words.now) 21 c.requires (lit< tt)

pub number_or-requires-clause-form : goal.number_or-requires-clause-form
unfolding options
number_or-requires-clause-form c = let texts = map string_bytes c.args.given.now.words.now in wider_form (pos 1) (pos 50000) (pos 0) (pos (2 ^ 31 - 1)) (codes "leaf") texts refl refl refl (fit_row texts 1 c.requires (lit< tt))

pub number_or-requires-2-clause-form : goal.number_or-requires-2-clause-form
unfolding options
number_or-requires-2-clause-form c = let texts = map string_bytes c.args.given.now.words.now in wider_form (pos 1) (pos 200000) (pos 0) (pos (2 ^ 31 - 1)) (codes "nodes") texts refl refl refl (fit_row texts 2 c.requires (lit< tt))

pub number_or-requires-3-clause-form : goal.number_or-requires-3-clause-form
unfolding options
number_or-requires-3-clause-form c = let texts = map string_bytes c.args.given.now.words.now in wider_form (pos 1) (pos 10000000) (pos 0) (pos (2 ^ 31 - 1)) (codes "points") texts refl refl refl (fit_row texts 3 c.requires (lit< tt))

pub number_or-requires-4-clause-form : goal.number_or-requires-4-clause-form
unfolding options
number_or-requires-4-clause-form c = let texts = map string_bytes c.args.given.now.words.now in wider_form (pos 1) (pos 50000) (pos 0) (pos (2 ^ 31 - 1)) (codes "batch") texts refl refl refl (fit_row texts 5 c.requires (lit< tt))

pub number_or-requires-5-clause-form : goal.number_or-requires-5-clause-form
unfolding options
number_or-requires-5-clause-form c = let texts = map string_bytes c.args.given.now.words.now in wider_form (pos 0) (pos 9) (pos 0) (pos (2 ^ 31 - 1)) (codes "decimals") texts refl refl refl (fit_row texts 6 c.requires (lit< tt))

pub number_or-requires-6-clause-form : goal.number_or-requires-6-clause-form
unfolding options
number_or-requires-6-clause-form c = let texts = map string_bytes c.args.given.now.words.now in wider_form (pos 1) (pos 65536) (pos 0) (pos (2 ^ 31 - 1)) (codes "focal") texts refl refl refl (fit_row texts 11 c.requires (lit< tt))

pub number_or-requires-7-clause-form : goal.number_or-requires-7-clause-form
unfolding options
number_or-requires-7-clause-form c = let texts = map string_bytes c.args.given.now.words.now in wider_form (pos 1) (pos 1000000000) (pos 0) (pos (2 ^ 31 - 1)) (codes "near") texts refl refl refl (fit_row texts 12 c.requires (lit< tt))

pub number_or-requires-8-clause-form : goal.number_or-requires-8-clause-form
unfolding options
number_or-requires-8-clause-form c = let texts = map string_bytes c.args.given.now.words.now in wider_form (pos 1) (pos 65536) (pos 0) (pos (2 ^ 31 - 1)) (codes "threshold") texts refl refl refl (fit_row texts 14 c.requires (lit< tt))

pub number_or-requires-9-clause-form : goal.number_or-requires-9-clause-form
unfolding options
number_or-requires-9-clause-form c = let texts = map string_bytes c.args.given.now.words.now in wider_form (pos 1) (pos 64) (pos 0) (pos (2 ^ 31 - 1)) (codes "dot") texts refl refl refl (fit_row texts 15 c.requires (lit< tt))

pub number_or-requires-10-clause-form : goal.number_or-requires-10-clause-form
unfolding options
number_or-requires-10-clause-form c = let texts = map string_bytes c.args.given.now.words.now in wider_form (pos 1) (pos 16) (pos 0) (pos (2 ^ 31 - 1)) (codes "loaders") texts refl refl refl (fit_row texts 16 c.requires (lit< tt))

pub number_or-requires-11-clause-form : goal.number_or-requires-11-clause-form
unfolding options
number_or-requires-11-clause-form c = let texts = map string_bytes c.args.given.now.words.now in wider_form (pos 1) (pos 16) (pos 0) (pos (2 ^ 31 - 1)) (codes "viewers") texts refl refl refl (fit_row texts 17 c.requires (lit< tt))

pub number_or-requires-12-clause-form : goal.number_or-requires-12-clause-form
unfolding options
number_or-requires-12-clause-form c = let texts = map string_bytes c.args.given.now.words.now in wider_form (pos 1) (pos 100) (pos 0) (pos (2 ^ 31 - 1)) (codes "frames") texts refl refl refl (fit_row texts 18 c.requires (lit< tt))

pub number_or-requires-13-clause-form : goal.number_or-requires-13-clause-form
unfolding options
number_or-requires-13-clause-form c = let texts = map string_bytes c.args.given.now.words.now in wider_form (pos 1) (pos 10000000) (pos 0) (pos (2 ^ 31 - 1)) (codes "count") texts refl refl refl (fit_row texts 22 c.requires (lit< tt))

pub chunks_of-requires : goal.chunks_of-requires
unfolding options
chunks_of-requires c = let texts = map string_bytes c.args.given.now.words.now in wider_form (pos 1) (pos 1000000) (pos 0) (pos (2 ^ 31 - 1)) (codes "chunks") texts refl refl refl (fit_row texts 4 c.requires (lit< tt))

pub returns-clause-value : goal.returns-clause-value
unfolding job_of
returns-clause-value c = λ i. record {
  command = c.args.command;
  files = c.in_ok-files.ensures i;
  cube = c.cube_of.ensures i;
  leaf = c.number_or.ensures i;
  nodes = c.number_or-2.ensures i;
  points = c.number_or-3.ensures i;
  chunks = c.chunks_of.ensures i;
  batch = c.number_or-4.ensures i;
  decimals = c.number_or-5.ensures i;
  low = c.is_chosen.ensures i;
  voxels = c.is_chosen-2.ensures i;
  pos = c.pos_of.ensures i;
  rows = c.rows_of.ensures i;
  focal = c.number_or-6.ensures i;
  near = c.number_or-7.ensures i;
  size = c.size_of.ensures i;
  threshold = c.number_or-8.ensures i;
  dot = c.number_or-9.ensures i;
  loaders = c.number_or-10.ensures i;
  viewers = c.number_or-11.ensures i;
  frames = c.number_or-12.ensures i;
  schedule = c.in_ok-schedule_of.ensures i;
  generate = c.generate_of.ensures i;
  seed = c.seed_of.ensures i;
  count = c.number_or-13.ensures i;
}

pub returns-clause-ranges : goal.returns-clause-ranges
returns-clause-ranges c = subst HasRanges (sym (returns-clause-value c)) (has_ranges c.args.command (map string_bytes c.args.given.now.words.now) c.requires)
