-- What the register promises of every run.
use Rattle.std.specs.Prelude.{◌≡◌, ℕ, zero, suc, ◌<◌, true, ◌⊎◌, ◌↔◌, List, [], ◌∷◌, ◌++◌, length, Some, None, ⊤}
use Rattle.ctl.specs.Model.{Model, IsSerial}
use Rattle.ctl.specs.Meaning.{Holds}
use Rattle.forms.specs.Forms.{Table}
use Rattle.forms.specs.Meaning.{formula, SetHolds}
use Rattle.forms.specs.Sets.{member, is_within}
use Rattle.machine.specs.Interface.{IsSoundMachine}
use Rattle.tableau.specs.declared.goals.Focus.TheVariants.{Nowhere}
use Rattle.tableau.specs.declared.goals.Step.{Step}
use Rattle.tableau.specs.Steps.{step_of}
use Rattle.tableau.specs.Tree.{Tree, root, Obeys, ClosesEveryBranch, steps}
use Rattle.tableau.specs.Statements.{Among}
use Rattle.tableau.specs.Walk.{Walk, waiting_goals}
use Rattle.walk.specs.Progress.{absent, present}
use Rattle.protocol.specs.declared.line.Standing.{Standing}
use Rattle.protocol.specs.declared.line.Standing.TheVariants.{Impossible, Possible}
use Rattle.protocol.specs.declared.line.Line.{Line}
use Rattle.protocol.specs.State.{Book, State, most_lines, standing}
use Rattle.protocol.specs.Calls.{Call, open_at, node, enter, show, strike, clear, held_part, ok, answer, state_after}
use Rattle.protocol.specs.Runs.{IsLawfulCall, AllLawful, AllAccepted, IsAccepted, state_from, reached_state, history, brought_forms}

-- the set stands so in the register
abbrev pub StandsAs : State → ℕ → Standing → Type 0
StandsAs s set how = standing s.book set ≡ Some how

-- no state of any finite model with successors everywhere holds the set, however many states it has
abbrev pub HoldsNowhere : Table → ℕ → Type 0
HoldsNowhere T set = (m : Model) → IsSerial m → (t : ℕ) → SetHolds T m set t → ⊥

-- some state of a machine that the interface can show holds it
abbrev pub HoldsSomewhere : Table → ℕ → Type 0
HoldsSomewhere T set = (m : Model) × (IsSoundMachine m × ((t : ℕ) × SetHolds T m set t))

-- the held part of a set has those of its forms that hold at the state
abbrev pub HeldTells : Type 0
HeldTells =
    (T : Table) (m : Model) → IsSerial m → (set t : ℕ) → t < m.count → (f : ℕ)
    → (member (held_part T m set t) f ≡ true) ↔ ((member set f ≡ true) × (f < length T) × Holds m (formula T f) t)

-- the book has the line at place n
pub data LineAt (line : Line) : ℕ → Book → Type 0 where
  first : {book : Book} → LineAt line zero (line ∷ book)
  later : {n : ℕ} {other : Line} {book : Book} → LineAt line n book → LineAt line (suc n) (other ∷ book)

abbrev pub InBook : Line → Book → Type 0
InBook line book = (n : ℕ) × LineAt line n book

-- the call strikes that line, or clears the register
abbrev pub Removes : Call → Line → Book → Type 0
Removes (strike n) line book = LineAt line n book
Removes clear line book = ⊤
Removes _ line book = ⊥

-- the calls are node with each of the steps, in order; the bytes that a step does not use may be any
pub data Brings : List Call → List Step → Type 0 where
  no_more : Brings [] []
  then : {number a b : ℕ} {st : Step} {nodes : List Call} {sts : List Step} → step_of number a b ≡ Some st → Brings nodes sts → Brings (node number a b ∷ nodes) (st ∷ sts)

-- open at the set, the calls of node, and enter
abbrev pub whole_calls : ℕ → List Call → List Call
whole_calls set nodes = open_at set ∷ (nodes ++ enter ∷ [])

-- a tree whose root goal has this set of table forms and no focus, which obeys the step rules, has no path above 256 goals, and closes every branch
pub record IsRefutation (T : Table) (set : ℕ) (tree : Tree) : Type 0 where
  pub in_table : is_within T set ≡ true
  pub rooted : root tree ≡ record { set = set; focus = Nowhere }
  pub obeys : Obeys T [] tree
  pub closes : ClosesEveryBranch tree

-- what is promised of the register that a run reached
pub record PromisesOf (calls : List Call) : Type 0 where
  -- Impossible means impossible: a set that stands as impossible holds at no state of any machine
  pub impossible_holds_nowhere : (set : ℕ) → StandsAs (reached_state calls) set Impossible → HoldsNowhere (reached_state calls).table set
  -- Possible means possible: a set that stands as possible holds at some state of some machine;
  pub possible_holds_somewhere : (set : ℕ) → StandsAs (reached_state calls) set Possible → HoldsSomewhere (reached_state calls).table set
  -- an accepted show on a machine and at a state where all of the set holds leaves it standing as possible,
  pub shown_is_possible : (set t : ℕ) (m : Model) (marks scratch : ℕ) → IsLawfulCall (show set t m marks scratch)
      → IsAccepted (answer (reached_state calls) (show set t m marks scratch)) → SetHolds (reached_state calls).table m set t
      → StandsAs (state_after (reached_state calls) (show set t m marks scratch)) set Possible
  -- and so does one that replies with all of the set;
  pub all_held_is_possible : (set t : ℕ) (m : Model) (marks scratch rounds : ℕ) → IsLawfulCall (show set t m marks scratch)
      → answer (reached_state calls) (show set t m marks scratch) ≡ ok (set ∷ rounds ∷ [])
      → StandsAs (state_after (reached_state calls) (show set t m marks scratch)) set Possible
  -- a line goes only by a strike of that line or by clear
  pub lines_stay : (call : Call) → IsLawfulCall call → (line : Line) → InBook line (reached_state calls).book
      → InBook line (state_after (reached_state calls) call).book ⊎ Removes call line (reached_state calls).book
  -- A walk tells the truth: if the set that it was opened at holds at some state of a model, then the set of some goal that waits
  -- holds at some state of the same model; so where the walk is closed there is no such state
  pub walk_tells : (opened : ℕ) (walk : Walk) → (reached_state calls).walk ≡ present opened walk → (m : Model) → IsSerial m
      → (t : ℕ) → SetHolds (reached_state calls).table m opened t → Among (λ g. (u : ℕ) × SetHolds (reached_state calls).table m g.set u) (waiting_goals walk)
  -- Nothing is lost or made up: the table's forms are those that accepted calls of form and load brought since the making or the last clear, in order and as stored;
  pub table_is_brought : (reached_state calls).table ≡ brought_forms (history calls)
  -- every refutation can be brought by calls of open, node and enter;
  pub refutation_can_be_brought : (set : ℕ) (tree : Tree) → IsRefutation (reached_state calls).table set tree
      → (nodes : List Call) × (Brings nodes (steps tree) × AllLawful (whole_calls set nodes))
  -- with no walk present, the set not standing and a free line, all of these calls are accepted, and then its set stands as impossible
  pub refutation_is_taken : (set : ℕ) (tree : Tree) → IsRefutation (reached_state calls).table set tree
      → (reached_state calls).walk ≡ absent → standing (reached_state calls).book set ≡ None → length (reached_state calls).book < most_lines
      → (nodes : List Call) → Brings nodes (steps tree)
      → AllAccepted (reached_state calls) (whole_calls set nodes) × StandsAs (state_from (reached_state calls) (whole_calls set nodes)) set Impossible

-- after any lawful calls, refused ones counted
abbrev pub Promises : Type 0
Promises = (calls : List Call) → AllLawful calls → PromisesOf calls
