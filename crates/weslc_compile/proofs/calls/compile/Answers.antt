-- What the part answers is told of, and what is left to the whole language is beyond the part.
use Rattle.std.proofs.Common.{inl, inr, string_bytes}
use Rattle.weslc_calls.specs.OfCore.{sources}
use Rattle.core_reach.specs.Alone.{only}
use Rattle.weslc_compile.proofs.Inside.{inside_between, asks_inside}
use Rattle.weslc_compile.proofs.Left.{todo_is_beyond}
use Rattle.weslc_compile.proofs.Plain.{part_plain}
use Rattle.weslc_compile.proofs.calls.compile.Goals as goal

pub returns-in-Answered-Ok-clause-plain : goal.returns-in-Answered-Ok-clause-plain
returns-in-Answered-Ok-clause-plain g c =
    part_plain (g.R.Resolver.answers c.args.resolver.now) c.args.root.now c.args.options.now (string_bytes c.in-Answered-Ok.answer.0)
    (rw c.in-Answered-Ok.field-0-is at c.in-Answered-Ok.ensures.text)

pub returns-then-is_todo-clause-text : goal.returns-then-is_todo-clause-text
returns-then-is_todo-clause-text g c =
    inl (todo_is_beyond (sources c.args.options.now.features (g.R.Resolver.answers c.args.resolver.now)) c.args.root.now c.args.options.now c.in-Answered-Err.error
    (rw c.in-Answered-Err.field-0-is at c.in-Answered-Err.ensures.refusal) (c.is_todo.ensures c.if-is_todo.true))

pub returns-then-is_todo-clause-map : goal.returns-then-is_todo-clause-map
returns-then-is_todo-clause-map g c =
    inl (todo_is_beyond (sources c.args.options.now.features (g.R.Resolver.answers c.args.resolver.now)) c.args.root.now c.args.options.now c.in-Answered-Err.error
    (rw c.in-Answered-Err.field-0-is at c.in-Answered-Err.ensures.refusal) (c.is_todo.ensures c.if-is_todo.true))

pub returns-then-is_todo-clause-names : goal.returns-then-is_todo-clause-names
returns-then-is_todo-clause-names g c =
    inl (todo_is_beyond (sources c.args.options.now.features (g.R.Resolver.answers c.args.resolver.now)) c.args.root.now c.args.options.now c.in-Answered-Err.error
    (rw c.in-Answered-Err.field-0-is at c.in-Answered-Err.ensures.refusal) (c.is_todo.ensures c.if-is_todo.true))

pub returns-then-is_todo-clause-refusal : goal.returns-then-is_todo-clause-refusal
returns-then-is_todo-clause-refusal g c =
    inl (todo_is_beyond (sources c.args.options.now.features (g.R.Resolver.answers c.args.resolver.now)) c.args.root.now c.args.options.now c.in-Answered-Err.error
    (rw c.in-Answered-Err.field-0-is at c.in-Answered-Err.ensures.refusal) (c.is_todo.ensures c.if-is_todo.true))

pub returns-in-Answered-Ok-clause-text : goal.returns-in-Answered-Ok-clause-text
returns-in-Answered-Ok-clause-text g c = inr (rw c.in-Answered-Ok.field-0-is at c.in-Answered-Ok.ensures.text)

pub returns-in-Answered-Ok-clause-map : goal.returns-in-Answered-Ok-clause-map
returns-in-Answered-Ok-clause-map g c = inr (rw c.in-Answered-Ok.field-0-is at c.in-Answered-Ok.ensures.map)

pub returns-in-BeyondCore-clause-alone : goal.returns-in-BeyondCore-clause-alone
returns-in-BeyondCore-clause-alone g c = λ inside within.
    inl (inl (c.in-BeyondCore.ensures.alone_beyond inside
    (asks_inside inside (g.R.Resolver.asked c.args.resolver.now) (g.R.Resolver.asked c.try_compile.new.resolver)
    (inside_between inside (g.R.Resolver.asked c.try_compile.new.resolver) (g.R.Resolver.asked c.compile_modules.new.resolver) c.compile_modules.ensures.asked within))))

pub returns-then-is_todo-clause-alone : goal.returns-then-is_todo-clause-alone
returns-then-is_todo-clause-alone g c = λ inside within.
    let told = c.in-Answered-Err.ensures.alone_refusal inside
    (asks_inside inside (g.R.Resolver.asked c.args.resolver.now) (g.R.Resolver.asked c.try_compile.new.resolver)
    (inside_between inside (g.R.Resolver.asked c.try_compile.new.resolver) (g.R.Resolver.asked c.compile_modules-then-is_todo.new.resolver) c.compile_modules-then-is_todo.ensures.asked within)) in
    inl (todo_is_beyond (only inside (sources c.args.options.now.features (g.R.Resolver.answers c.args.resolver.now))) c.args.root.now c.args.options.now c.in-Answered-Err.error
    (rw c.in-Answered-Err.field-0-is at told) (c.is_todo.ensures c.if-is_todo.true))

pub returns-else-is_todo-clause-alone : goal.returns-else-is_todo-clause-alone
returns-else-is_todo-clause-alone g c = λ inside within.
    let told = c.in-Answered-Err.ensures.alone_refusal inside
    (asks_inside inside (g.R.Resolver.asked c.args.resolver.now) (g.R.Resolver.asked c.try_compile.new.resolver) within) in
    inr (record { text = tt; map = tt; refusal = rw c.in-Answered-Err.field-0-is at told })

pub returns-in-Answered-Ok-clause-alone : goal.returns-in-Answered-Ok-clause-alone
returns-in-Answered-Ok-clause-alone g c = λ inside within.
    let asks = asks_inside inside (g.R.Resolver.asked c.args.resolver.now) (g.R.Resolver.asked c.try_compile.new.resolver) within in
    let text = c.in-Answered-Ok.ensures.alone_text inside asks in
    let map = c.in-Answered-Ok.ensures.alone_map inside asks in
    inr (record { text = rw c.in-Answered-Ok.field-0-is at text; map = rw c.in-Answered-Ok.field-0-is at map; refusal = tt })
