-- What holds of a state of the machine between two moves.
use Rattle.std.specs.Prelude.{◌≡◌, ℕ, ◌<◌, ◌≤◌, ◌⊎◌, List, [], ◌∷◌}
use Rattle.cp_code.specs.Tree.{Item, Goal, AskFrom, CutNow, Leave, Copy, Exit, Demands, Renamed}
use Rattle.cp_code.specs.Ends.{Named}
use Rattle.cp_code.specs.Instrument.{HasNoTests}
use Rattle.cp_code.specs.Machine.{Frame, Alternative, Clauses, Mark, Catching, Gathering, Answering, Point, Runs, Tests, Tries, Gives, Fails, Throws, Asks, Writes, Calls, Answers, Stops, State}

-- a cut to l finds its mark below frames that were pushed since
abbrev pub Cuttable : ℕ → ℕ → List Frame → Type 0
Cuttable l level [] = ⊥
Cuttable l level (Alternative items s next v ∷ fs) = Cuttable l level fs
Cuttable l level (Clauses cs g rest s next v ∷ fs) = Cuttable l level fs
Cuttable l level (Mark k ∷ fs) = (k ≡ l) ⊎ ((l < k) × (k ≤ level) × Cuttable l level fs)
Cuttable l level (Catching k seer catcher r rest s next v ∷ fs) = (l < k) × (k ≤ level) × Cuttable l level fs
Cuttable l level (Gathering outer result rest s next v ∷ fs) = ⊥
Cuttable l level (Answering answers behind g ctx rest s next v ∷ fs) = Cuttable l level fs

abbrev pub UpTo : ℕ → ℕ → Type 0
UpTo n j = j ≤ n

-- behind a goal stand only goals of its level and of older ones
abbrev pub Sorted : List Item → Type 0
Sorted [] = Unit {0}
Sorted (Goal b l ∷ rest) = Named (UpTo l) rest × Sorted rest
Sorted (AskFrom a place ∷ rest) = Sorted rest
Sorted (CutNow l ∷ rest) = Named (UpTo l) rest × Sorted rest
Sorted (Leave k ∷ rest) = Sorted rest
Sorted (Copy x ctx ∷ rest) = Unit {0}
Sorted (Exit p cs g ∷ rest) = Sorted rest
Sorted (Demands p cs g ∷ rest) = Sorted rest
Sorted (Renamed p cs g ∷ rest) = Sorted rest

-- each cut up to the end of a findall's goal finds its mark
abbrev pub CutIn : ℕ → List Frame → List Item → Type 0
CutIn level fs [] = Unit {0}
CutIn level fs (Goal b l ∷ rest) = Cuttable l level fs × CutIn level fs rest
CutIn level fs (AskFrom a place ∷ rest) = CutIn level fs rest
CutIn level fs (CutNow l ∷ rest) = Cuttable l level fs × CutIn level fs rest
CutIn level fs (Leave k ∷ rest) = CutIn level fs rest
CutIn level fs (Copy x ctx ∷ rest) = Unit {0}
CutIn level fs (Exit p cs g ∷ rest) = CutIn level fs rest
CutIn level fs (Demands p cs g ∷ rest) = CutIn level fs rest
CutIn level fs (Renamed p cs g ∷ rest) = CutIn level fs rest

pub record Fits (items : List Item) (level : ℕ) (fs : List Frame) : Type 0 where
  pub plain : HasNoTests items
  pub sorted : Sorted items
  pub cuts : CutIn level fs items
  pub below : Named (UpTo level) items

abbrev pub FramesOk : List Frame → Type 0
FramesOk [] = Unit {0}
FramesOk (Alternative items s next level ∷ fs) = Fits items level fs × FramesOk fs
FramesOk (Clauses cs g rest s next level ∷ fs) = Fits (CutNow level ∷ rest) level fs × FramesOk fs
FramesOk (Mark k ∷ fs) = FramesOk fs
FramesOk (Catching k seer catcher r rest s next level ∷ fs) = Fits rest level fs × FramesOk fs
FramesOk (Gathering outer result rest s next level ∷ fs) = Fits rest level fs × FramesOk fs
FramesOk (Answering answers behind g ctx rest s next level ∷ fs) = Fits rest level fs × FramesOk fs

abbrev pub PointOk : Point → List Frame → Type 0
PointOk (Runs items s next level) fs = Fits items level fs
PointOk (Tries cs g rest s next level) fs = Fits (CutNow level ∷ rest) level fs
PointOk (Tests p cs renamed g rest s next level) fs = Fits rest level fs
PointOk (Gives answers behind g ctx rest s next level) fs = Fits rest level fs
PointOk Fails fs = Unit {0}
PointOk (Throws b ks) fs = Unit {0}
PointOk (Asks a from rest s next level) fs = Fits rest level fs
PointOk (Writes bytes ctx rest s next level) fs = Fits rest level fs
PointOk (Calls p g handed rest s next level) fs = Fits rest level fs
PointOk (Answers t) fs = Unit {0}
PointOk Stops fs = Unit {0}

pub record Ok (st : State) : Type 0 where
  pub point : PointOk st.point st.frames
  pub frames : FramesOk st.frames

-- no move is left: an input is due, or the goal has ended
abbrev pub IsLast : List Frame → Type 0
IsLast [] = Unit {0}
IsLast (f ∷ fs) = ⊥

abbrev pub Still : Point → List Frame → Type 0
Still (Asks a from rest s next level) fs = Unit {0}
Still (Writes bytes ctx rest s next level) fs = Unit {0}
Still (Calls p g handed rest s next level) fs = Unit {0}
Still (Answers t) fs = Unit {0}
Still (Runs items s next level) fs = ⊥
Still (Tries cs g rest s next level) fs = ⊥
Still (Tests p cs renamed g rest s next level) fs = ⊥
Still (Gives answers behind g ctx rest s next level) fs = ⊥
Still Fails fs = IsLast fs
Still (Throws b ks) fs = IsLast fs
Still Stops fs = Unit {0}
