-- What contracts see of a watch, and what it keeps.
use Rattle.std.specs.Prelude.{ℕ, ◌≡◌, ◌<◌, ◌≤◌, Bool, Option, None, Some, MatchOption, List, length, take, slice_get}
use Rattle.act1_channel.specs.declared.problem.Problem.{Problem}
use Rattle.act1_channel.specs.declared.problem.Choice.{Choice}
use Rattle.act1_channel.specs.declared.problem.Hint.{Hint}
use Rattle.act1_channel.specs.declared.problem.Step.{Step}
use Rattle.act1_channel.specs.Clauses.{Fact}
use Rattle.act1_channel.specs.declared.trail.Entry.{Entry}
use Rattle.act1_channel.specs.Found.{Found, truth_in, IsFor}
use Rattle.act1_search.specs.Explaining.{AreShown}
use Rattle.act1_search.specs.Trail.{HasFound, IsTrail}
use Rattle.act1_search.specs.Watching.{IsWatched, Stands}
use Rattle.act1_search.specs.Propagation.{AreInside, IsContradicted, IsSettled}

-- facts found after choices: each has its ground, and what stands is among them
pub record IsLevel (p : Problem) (steps : List (List Choice)) (chosen : List Choice) (found : List Entry) : Type 0 where
  pub trail : IsTrail p steps chosen found
  pub inside : AreInside p found
  pub given : (f : Fact) → Stands steps chosen f → HasFound found f

-- a level that stays until its next choice is taken back: the facts before that choice, which had their effect and say nothing of it
pub record IsBase (p : Problem) (steps : List (List Choice)) (chosen : List Choice) (found : List Entry) (next : Choice) : Type 0 where
  pub level : IsLevel p steps chosen found
  pub settled : IsSettled p found
  pub free : truth_in found next ≡ None

-- the marks say where the facts of each choice begin
pub record AreMarks (p : Problem) (steps : List (List Choice)) (chosen : List Choice) (found : List Entry) (marks : List ℕ) : Type 0 where
  pub each : length marks ≡ length chosen
  pub within : (i m : ℕ) → slice_get marks i ≡ Some m → m < length found
  pub rise : (i j m n : ℕ) → i < j → slice_get marks i ≡ Some m → slice_get marks j ≡ Some n → m < n
  pub bases : (i m : ℕ) (c : Choice) → slice_get marks i ≡ Some m → slice_get chosen i ≡ Some c → IsBase p steps (take i chosen) (take m found) c

pub record IsWatch (p : Problem) (steps : List (List Choice)) (chosen : List Choice) (found : Found) (marks : List ℕ) (broken : Option Hint) : Type 0 where
  pub size : IsFor p found
  pub watched : IsWatched p steps chosen
  pub level : IsLevel p steps chosen found.entries
  pub levels : AreMarks p steps chosen found.entries marks
  pub answer : MatchOption broken (IsSettled p found.entries) (IsContradicted p found.entries)

-- there is room for a choice and a mark about each place
pub record HasRoom (places chosen marks depth : ℕ) : Type 0 where
  pub chosen_room : chosen ≡ places
  pub marks_room : marks ≡ places
  pub depth_room : depth ≤ places

-- each step has its hints, one step more may be numbered, and there is a mark for each place
pub record IsLogged (p : Problem) (log : List Step) (places : ℕ) (wanted : List Bool) : Type 0 where
  pub shown : AreShown p log
  pub few : length log ≤ 4294967294
  pub marks : length wanted ≡ places
