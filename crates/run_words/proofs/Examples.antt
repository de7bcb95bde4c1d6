-- The definition of a job, tried on command lines.
use Rattle.std.proofs.Common.{◌≡◌, [], ◌∷◌, codes, refl}
use Rattle.std.specs.Prelude.{pos, negsuc, Err, true, false}
use Rattle.run_words.specs.Numbers.{is_number}
use Rattle.run_words.specs.Options.{options}
use Rattle.run_words.specs.Values.{job_of}
use Rattle.run_words.specs.Jobs.{job}
use Rattle.run_words.specs.declared.command.CommandName.TheVariants.{Nodes}
use Rattle.run_words.specs.declared.option.OptionName.TheVariants.{Leaf}
use Rattle.run_words.specs.declared.words.WordsFault.TheVariants.{Command, Word, Options, Value, Pixels}

no_word : job [] ≡ Err Command
no_word = refl

no_file : job (codes "nodes" ∷ []) ≡ Err Options
unfolding options job_of
no_file = refl

apart : job (codes "nodes" ∷ codes "--leaf" ∷ codes "5" ∷ codes "a.xyz" ∷ []) ≡ Err (Word 2)
unfolding options job_of
apart = refl

zero_leaf : job (codes "nodes" ∷ codes "--leaf=0" ∷ codes "a.xyz" ∷ []) ≡ Err (Value Leaf)
unfolding options job_of
zero_leaf = refl

many_pixels : job (codes "live" ∷ codes "--viewers=16" ∷ codes "--frames=100" ∷ codes "--size=256,256" ∷ codes "a.xyz" ∷ []) ≡ Err (Pixels 104923136)
unfolding options job_of
many_pixels = refl

default_leaf : (job_of Nodes (codes "a.xyz" ∷ [])).leaf ≡ 50000
unfolding job_of
default_leaf = refl

-- `-0` is a number where the range has negative numbers, and nowhere else
minus_zero : is_number (negsuc 1023) (pos 1024) (codes "-0") ≡ true
minus_zero = refl

no_minus_zero : is_number (pos 0) (pos 9) (codes "-0") ≡ false
no_minus_zero = refl
