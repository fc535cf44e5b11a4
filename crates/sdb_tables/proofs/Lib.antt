mod Reading
mod Table
