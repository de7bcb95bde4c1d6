-- Why a bound refused a batch, as text.
use Rattle.std.specs.Prelude.{ℕ, List, [], ◌∷◌, codes, decimal}
use Rattle.run_report.specs.Texts.{joined}
use Rattle.cube_math.specs.declared.refused.Cause.{Cause}
use Rattle.cube_math.specs.declared.refused.Cause.TheVariants.{Outside, Points, Chunks, Nodes}

-- what follows the input number of a refused batch
abbrev pub refused_rest : Cause → List ℕ
refused_rest (Outside at) = joined (codes "outside " ∷ decimal at ∷ [])
refused_rest (Points at admitted n most) = joined (codes "points " ∷ decimal at ∷ codes " " ∷ decimal admitted ∷ codes " " ∷ decimal n ∷ codes " " ∷ decimal most ∷ [])
refused_rest (Chunks at need free held) = joined (codes "chunks " ∷ decimal at ∷ codes " " ∷ decimal need ∷ codes " " ∷ decimal free ∷ codes " " ∷ decimal held ∷ [])
refused_rest (Nodes at need most) = joined (codes "nodes " ∷ decimal at ∷ codes " " ∷ decimal need ∷ codes " " ∷ decimal most ∷ [])
