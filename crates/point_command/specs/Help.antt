-- What the program of points alone tells of itself.
use Rattle.std.specs.Prelude.{ℕ, List, [], ◌∷◌, codes}
use Rattle.std.specs.List.{flat_map}
use Rattle.iso_defs.specs.Texts.{line}
use Rattle.program.specs.Questions.{version_line}

-- the lines of the help
unfoldable pub help_lines : List (List ℕ)
help_lines =
    codes "isopoints: the points at which an isosurface crosses the edges of a lattice" ∷
    codes "" ∷
    codes "Usage:" ∷
    codes "  isopoints points --level=V" ∷
    codes "  isopoints [points] --help" ∷
    codes "  isopoints --version" ∷
    codes "" ∷
    codes "points   reads an NRRD volume from standard input and writes the points at which" ∷
    codes "         the surface crosses lattice edges, as PLY without faces:" ∷
    codes "             isopoints points --level=5 < corner.nrrd > points.ply" ∷
    codes "" ∷
    codes "V, the level, is a number with at most three decimals, as 5 or -0.5. The other" ∷
    codes "commands of the workbench are those of the program isobench." ∷
    codes "" ∷
    codes "Exit status; each but 0 puts a line into standard error:" ∷
    codes "  0  done, and the whole output was written" ∷
    codes "  2  the arguments are not a command line" ∷
    codes "  3  the volume is refused" ∷
    codes "  4  reading standard input failed" ∷
    codes "  5  the input has too many bytes" ∷
    codes "  6  writing standard output failed" ∷
    codes "  7  out of memory" ∷
    codes "" ∷
    codes "Manual: README.md and docs/ of the repository isobench." ∷
    []

unfoldable pub help_text : List ℕ
help_text = flat_map line help_lines

-- the line of the version
abbrev pub version_text : List ℕ
version_text = version_line (codes "isopoints")
