-- What is printed of a broken rule.
use Rattle.std.specs.Prelude.{ℕ, List, ◌++◌, codes, decimal}
use Rattle.table.specs.declared.Broken.{Broken}
use Rattle.table.specs.declared.Broken.TheVariants.{R1, R2, R3, R4, R5, R6, R7, R8, R9}

abbrev pub text_of : Broken → List ℕ
text_of R1 = codes "R1: more ids are built than added, or added than there is room for"
text_of R2 = codes "R2: the metric's number is above 3, or 0 although ids are built"
text_of (R3 id) = codes "R3: id " ++ (decimal id.0 ++ codes ": its level is not one that it may have")
text_of (R4 id) = codes "R4: id " ++ (decimal id.0 ++ codes ": its mark is not one that it may have")
text_of (R5 id) = codes "R5: id " ++ (decimal id.0 ++ codes ": a coordinate is not finite, or not zero before the id is added")
text_of (R6 id level) = codes "R6: id " ++ (decimal id.0 ++ (codes ", level " ++ (decimal level.0 ++ codes ": the list's count is above its slots, or no list may be here")))
text_of (R7 id level) = codes "R7: id " ++ (decimal id.0 ++ (codes ", level " ++ (decimal level.0 ++ codes ": a slot past the list's count is not zero")))
text_of (R8 id level) = codes "R8: id " ++ (decimal id.0 ++ (codes ", level " ++ (decimal level.0 ++ codes ": the list holds its owner, or an id not built or not that high")))
text_of (R9 id level) = codes "R9: id " ++ (decimal id.0 ++ (codes ", level " ++ (decimal level.0 ++ codes ": the list holds an id twice")))
