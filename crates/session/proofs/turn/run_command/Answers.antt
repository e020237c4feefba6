use Rattle.std.proofs.Common.{refl, rules}
use Rattle.bench_core.specs.Keeping.{Keeps, fill_area, set_area}
use Rattle.bench_core.specs.Machine.{IsStep, IsSureStep, set_step, fill_step, level_step, three_from}
use Rattle.script.specs.declared.command.Command.TheVariants.{Set, Fill, Level, Undo, Redo, Save, SaveText, SaveHex, Window, Contour, Report, Measure}
use Rattle.session.specs.Responses.{response_text}
use Rattle.session.specs.Worlds.{TakesTurn}
use Rattle.session.proofs.Turns.{change_by, fill_by, stays_keeps, turn_by, work_by}
use Rattle.session.proofs.turn.run_command.Goals as goal

pub returns-in-Set : goal.returns-in-Set
returns-in-Set g c =
    let step : IsSureStep {T = Unit {0}} c.args.bench.now.state c.set.new.self.state c.set.result (set_step c.args.bench.now.state (three_from c.in-Set.at 0) c.in-Set.value) = search (rules, c.set.ensures.step) in
    let kept : Keeps c.args.bench.now c.set.new.self c.set.result (set_area c.args.bench.now.state (three_from c.in-Set.at 0)) = search (rules, c.set.ensures.kept) in
    change_by _ _ _ _ _ (Set c.in-Set.at c.in-Set.value) _ _ c.in-Set.is c.response_to_change.ensures step c.set.ensures.not_shelf refl refl (λ reply same. (same, refl)) kept

pub returns-in-Fill : goal.returns-in-Fill
returns-in-Fill g c =
    let step : IsStep {T = Unit {0}} c.args.bench.now.state c.fill.new.self.state c.fill.result (fill_step c.args.bench.now.state (three_from c.in-Fill.corners 0) (three_from c.in-Fill.corners 3) c.in-Fill.value) = search (rules, c.fill.ensures.step) in
    let kept : Keeps c.args.bench.now c.fill.new.self c.fill.result (fill_area c.args.bench.now.state (three_from c.in-Fill.corners 0) (three_from c.in-Fill.corners 3)) = search (rules, c.fill.ensures.kept) in
    fill_by _ _ _ _ _ (Fill c.in-Fill.corners c.in-Fill.value) _ _ c.in-Fill.is c.response_to_change-in-Fill.ensures step c.fill.ensures.not_shelf refl refl refl (λ reply same. (same, refl)) kept

pub returns-in-Level : goal.returns-in-Level
returns-in-Level g c =
    let step : IsSureStep {T = Unit {0}} c.args.bench.now.state c.level.new.self.state c.level.result (level_step c.args.bench.now.state c.in-Level.value) = search (rules, c.level.ensures.step) in
    change_by _ _ _ _ _ (Level c.in-Level.value) _ _ c.in-Level.is c.response_to_change-in-Level.ensures step c.level.ensures.not_shelf refl refl (λ reply same. (same, refl)) (stays_keeps c.args.bench.now c.level.new.self c.level.result c.level.ensures.kept)

pub returns-in-Undo : goal.returns-in-Undo
returns-in-Undo g c = change_by _ _ _ _ _ Undo _ _ c.in-Undo.is c.response_to_change-in-Undo.ensures c.undo.ensures.step c.undo.ensures.not_shelf refl refl (λ reply same. (same, refl)) c.undo.ensures.kept

pub returns-in-Redo : goal.returns-in-Redo
returns-in-Redo g c = change_by _ _ _ _ _ Redo _ _ c.in-Redo.is c.response_to_change-in-Redo.ensures c.redo.ensures.step c.redo.ensures.not_shelf refl refl (λ reply same. (same, refl)) c.redo.ensures.kept

pub returns-in-Work : goal.returns-in-Work
returns-in-Work g c = work_by _ _ _ _ _ _ c.in-Work.n c.in-Work.is c.work.ensures

pub returns-in-Contour : goal.returns-in-Contour
returns-in-Contour g c =
    let steps = c.args.steps.now in
    let store = g.H.Shelf.seen c.args.shelf.now in
    let turn : TakesTurn c.args.bench.now steps store (Contour c.in-Contour.k) (response_text c.run_contour.result) c.args.bench.now steps store = search (rules, c.run_contour.ensures steps store) in
    turn_by _ _ _ _ _ _ _ (Contour c.in-Contour.k) _ c.in-Contour.is turn

pub returns-in-Report : goal.returns-in-Report
returns-in-Report g c = turn_by _ _ _ _ _ _ _ Report _ c.in-Report.is (c.run_report.ensures _ _)

pub returns-in-Measure : goal.returns-in-Measure
returns-in-Measure g c = turn_by _ _ _ _ _ _ _ Measure _ c.in-Measure.is (c.run_measure.ensures _ _)

pub returns-in-Save : goal.returns-in-Save
returns-in-Save g c =
    let steps = c.args.steps.now in
    let turn : TakesTurn c.args.bench.now steps (g.H.Shelf.seen c.args.shelf.now) (Save c.in-Save.name) (response_text c.run_save.result) c.args.bench.now steps (g.H.Shelf.seen c.run_save.new.shelf) = search (rules, c.run_save.ensures steps) in
    turn_by _ _ _ _ _ _ _ (Save c.in-Save.name) _ c.in-Save.is turn

pub returns-in-SaveText : goal.returns-in-SaveText
returns-in-SaveText g c =
    let steps = c.args.steps.now in
    let turn : TakesTurn c.args.bench.now steps (g.H.Shelf.seen c.args.shelf.now) (SaveText c.in-SaveText.name) (response_text c.run_savetext.result) c.args.bench.now steps (g.H.Shelf.seen c.run_savetext.new.shelf) = search (rules, c.run_savetext.ensures steps) in
    turn_by _ _ _ _ _ _ _ (SaveText c.in-SaveText.name) _ c.in-SaveText.is turn

pub returns-in-SaveHex : goal.returns-in-SaveHex
returns-in-SaveHex g c =
    let steps = c.args.steps.now in
    let turn : TakesTurn c.args.bench.now steps (g.H.Shelf.seen c.args.shelf.now) (SaveHex c.in-SaveHex.name) (response_text c.run_savehex.result) c.args.bench.now steps (g.H.Shelf.seen c.run_savehex.new.shelf) = search (rules, c.run_savehex.ensures steps) in
    turn_by _ _ _ _ _ _ _ (SaveHex c.in-SaveHex.name) _ c.in-SaveHex.is turn

pub returns-in-Window : goal.returns-in-Window
returns-in-Window g c =
    let steps = c.args.steps.now in
    let command = Window c.in-Window.corners c.in-Window.format c.in-Window.name in
    let turn : TakesTurn c.args.bench.now steps (g.H.Shelf.seen c.args.shelf.now) command (response_text c.run_window.result) c.args.bench.now steps (g.H.Shelf.seen c.run_window.new.shelf) = search (rules, c.run_window.ensures steps) in
    turn_by _ _ _ _ _ _ _ command _ c.in-Window.is turn
