use Rattle.std.proofs.Common.{◌≡◌, ◌<◌, ◌≤◌, get_or, ◌∙◌, arith, length-set}
use Rattle.cp_term.proofs.lemmas.Forest.{sum-set-le, Falls-set, IsForest-nearer}
use Rattle.cp_term.proofs.classes.find.Goals as goal

pub loop-parents-preserved : goal.loop-parents-preserved
loop-parents-preserved c =
    let parents = c.loop-parents.parents in
    let at = c.loop-parents.at in
    let parent = get_or parents at 0 in
    let above = get_or parents parent 0 in
    let i = c.loop-parents.invariant in
    let first : parent ≤ at = i.falls at i.within in
    let inside : parent < at = let ne = c.loop-parents-test.true in omega arith in
    let second : above ≤ parent = i.falls parent (omega arith) in
    let less : above < at = omega arith in
    let len = length-set parents at above in
    record {
      within = omega arith;
      below = omega arith;
      falls = Falls-set parents at above i.within (omega arith) i.falls;
      sum = let k = sum-set-le parents at above i.within second in omega arith;
      forest = λ root f.
          let g = i.forest root f in
          let same : root above ≡ root at = g.0.above parent (omega arith) ∙ g.0.above at i.within in
          (IsForest-nearer parents root g.0 at above i.within less same, same ∙ g.1);
    }
