-- The index of a file.
use Rattle.std.specs.Prelude.{◌≡◌, List}
use Rattle.cp_read.specs.declared.clause.ReadClause.{ReadClause}
use Rattle.cp_declaration.specs.declared.indicator.Indicator.{Indicator}
use Rattle.cp_link.specs.Modules.{shared_in}
use Rattle.cp_assemble.specs.declared.index.FileIndex.{FileIndex}
use Rattle.cp_assemble.specs.Index.{places_in, places_of, markings_in, marks_among, marks_of}

-- what a file with these clauses says of its predicates
pub record IsIndexOf (clauses : List ReadClause) (index : FileIndex) : Type 0 where
  pub places : (p : Indicator) → places_in index.places p ≡ places_of 0 clauses p
  pub shared : index.shared ≡ shared_in clauses
  pub marks : (p : Indicator) → marks_of index.marks p ≡ marks_among (markings_in clauses) p
