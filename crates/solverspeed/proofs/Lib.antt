mod Hours
mod Reading
mod Words
