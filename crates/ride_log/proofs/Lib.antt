pub mod Numbers
mod KindNumbers
mod Records
