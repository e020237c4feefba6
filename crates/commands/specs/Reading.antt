-- How far a command reads its input.
use Rattle.std.specs.Prelude.{◌≡◌, List, ℕ, MatchOption}
use Rattle.byte_streams.specs.Seen.{Feed, ReadsWithin}
use Rattle.session.specs.Sessions.{script_limit}
use Rattle.command_terms.specs.Volumes.{volume_limit}
use Rattle.arguments.specs.Words.{request_of}
use Rattle.arguments.specs.declared.request.Request.{Request}
use Rattle.arguments.specs.declared.request.Request.TheVariants as requests
use Rattle.commands.specs.Checks.{mesh_limit}

-- no further than its limit and one piece, where it reads at all
abbrev pub ReadsFor : Request → Feed → Feed → Type 0
ReadsFor (requests.Points level) old new = ReadsWithin volume_limit old new
ReadsFor (requests.Extract level pad format) old new = ReadsWithin volume_limit old new
ReadsFor (requests.Session level pad name bricks pages) old new = ReadsWithin script_limit old new
ReadsFor (requests.Check format) old new = ReadsWithin mesh_limit old new
ReadsFor _ old new = new ≡ old

-- what is no command line reads nothing
abbrev pub ReadsInput : List (List ℕ) → Feed → Feed → Type 0
ReadsInput words old new = MatchOption (request_of words) (new ≡ old) (λ request. ReadsFor request old new)
