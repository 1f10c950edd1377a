use Rattle.std.proofs.Common.{◌≡◌, ◌<◌, ◌≤◌, ◌+◌, refl, ℕ, List, [], length, get_or, arith, rules}
use Rattle.av_base.specs.Shapes.{planes_of}
use Rattle.filt_expr.specs.Lutyuv.{IsTable, expression_for}
use Rattle.filt_expr.proofs.LutyuvLemmas.{set_each, set_more, zeros_long, zeros_blank, no_entry, past_limit, tables_are}
use Rattle.filt_expr.proofs.lutyuv.LutyuvSettingsFrameRule.settle.Goals as goal

pub returns-in_err-tables : goal.returns-in_err-tables
returns-in_err-tables c =
    let none = c.in_err-tables.ensures.err in
    let fault = no_entry c.args.options.now c.args.shape _ _ _ (search rules) c.loop-plane.invariant.tables none.0 none.1 in
    search rules

pub loop-plane-init : goal.loop-plane-init
loop-plane-init c = record { count = refl; tables = λ p none. absurd (omega arith); long = zeros_long; blank = λ p past. zeros_blank p }

pub loop-plane-preserved : goal.loop-plane-preserved
loop-plane-preserved c =
    let before = c.loop-plane.invariant in
    let plane = c.loop-plane.plane in
    let tables = c.loop-plane.tables in
    let table = c.in_ok-tables.field-0 in
    let room : plane < length tables = search rules in
    record {
      count = search rules;
      tables = set_more (λ (p : ℕ) (t : List ℕ). IsTable (expression_for c.args.options.now p) p t) tables plane table [] before.tables room c.in_ok-tables.ensures.ok;
      long = set_each (λ (p : ℕ) (t : List ℕ). p < 4 → length t ≡ 256) tables plane table [] room (λ low. search rules) (λ p apart low. before.long p low);
      blank = set_each (λ (p : ℕ) (t : List ℕ). plane + 1 ≤ p → (val : ℕ) → get_or t val 0 ≡ 0) tables plane table [] room (λ past. absurd (omega arith)) (λ p apart past. before.blank p (omega arith));
    }

pub returns-in_err-check_shape : goal.returns-in_err-check_shape
returns-in_err-check_shape c =
    let all : (p : ℕ) → p < planes_of c.args.shape → IsTable (expression_for c.args.options.now p) p (get_or c.loop-plane.tables p []) = search rules in
    let fault = past_limit c.args.options.now c.args.shape _ _ all c.in_err-check_shape.ensures.large in
    search rules

pub returns : goal.returns
returns c =
    let all : (p : ℕ) → p < planes_of c.args.shape → IsTable (expression_for c.args.options.now p) p (get_or c.loop-plane.tables p []) = search rules in
    let blank : (p : ℕ) → planes_of c.args.shape ≤ p → (val : ℕ) → get_or (get_or c.loop-plane.tables p []) val 0 ≡ 0 = search rules in
    tables_are c.args.options.now c.args.shape _ (record { count = c.loop-plane.invariant.count; long = c.loop-plane.invariant.long; entries = all; blank = blank }) c.in_ok-check_shape.ensures.small
