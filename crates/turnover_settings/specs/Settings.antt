-- The settings of a run of turnover before setup (document 01, "turnover"). Assumes nothing.
use Rattle.std.specs.Prelude.{ℕ, ◌+◌, ◌*◌, List, [], ◌∷◌, cond, ◌&&◌, eqb, ltb, get_or, replicate, set}
use Rattle.codec.specs.Splice.{splice}
use Rattle.codec.specs.Written.{Written}
use Rattle.header.specs.declared.Header.{Header}
use Rattle.header.specs.Header.{table_at, write_header}
use Rattle.area_calls.specs.Calls.{setup_on}
use Rattle.turnover_settings.specs.declared.Run.{Run}
use Rattle.turnover_settings.specs.declared.Stage.{Stage}
use Rattle.turnover_settings.specs.declared.Stage.TheVariants.{Opening, Setting}

-- a run before its first line
abbrev pub opened_run : Run
opened_run = record { stage = Opening; n = 0; t = 0; allowances = replicate 8 0; number = 0 }

-- after `net`: no allowance is set, and no step was made
abbrev pub named_run : ℕ → ℕ → Run
named_run n t = record { stage = Setting; n = n; t = t; allowances = replicate 8 0; number = 0 }

-- a run in another stage
abbrev pub staged_run : Run → Stage → Run
staged_run run s = record { stage = s; n = run.n; t = run.t; allowances = run.allowances; number = run.number }

-- a run whose last step has this number
abbrev pub numbered_run : Run → ℕ → Run
numbered_run run k = record { stage = run.stage; n = run.n; t = run.t; allowances = run.allowances; number = k }

-- the allowances with one of them set
abbrev pub allowance_set : List ℕ → ℕ → ℕ → List ℕ
allowance_set v i a = cond (ltb i 8) (set v i a) v

-- after `allow`
abbrev pub allowed_run : Run → ℕ → ℕ → Run
allowed_run run i a = record { stage = run.stage; n = run.n; t = run.t; allowances = allowance_set run.allowances i a; number = run.number }

-- the header block in the making, after one limit is set
unfoldable pub limit_set : List ℕ → ℕ → ℕ → ℕ → List ℕ
limit_set block i j l = cond (ltb i 8 && ltb j 8) (splice block (32 + 8 * i + j) (l ∷ [])) block

-- after `link`, which sets both ways
abbrev pub link_set : List ℕ → ℕ → ℕ → ℕ → List ℕ
link_set block i j l = limit_set (limit_set block i j l) j i l

-- the limit from a to b in a header block in the making
abbrev pub limit_in : List ℕ → ℕ → ℕ → ℕ
limit_in block a b = get_or (get_or (table_at 8 block 32) a []) b 0

-- the settings but for the limits
abbrev pub settings_of : Run → Header
settings_of run = record { n = run.n; t = run.t; allowances = run.allowances }

-- the header block of the settings and of the limits so far, or 1 where one is out of its range
unfoldable pub settings_block : List ℕ → Run → Written
settings_block block run = write_header (settings_of run) (table_at 8 block 32) block

-- setup by the settings, as the header block that they make
unfoldable pub set_up : List ℕ → List ℕ → Run → Written
set_up block area run =
    cond (eqb (settings_block block run).answer 0)
    (setup_on (settings_block block run).buffer area)
    (record { answer = (settings_block block run).answer; buffer = area })
